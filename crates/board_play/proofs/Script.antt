-- Where a driver's current call stands in its script.
use Rattle.std.proofs.Common.{◌≡◌, ℕ, zero, suc, ◌+◌, ◌<◌, ◌≤◌, Bool, true, false, ◌&&◌, cond, nat_le, leb-true}
use Rattle.std.proofs.Common.{leb-false, le-leb, Option, Some, None, List, [], ◌∷◌, length, take, slice_get, refl, sym}
use Rattle.std.proofs.Common.{ap, ◌∙◌, subst, arith}
use Rattle.std.proofs.lemmas.Bool.{and_parts, false_from_ne_true}
use Rattle.irq_base.specs.declared.numbers.DriverNo.{DriverNo}
use Rattle.irq_base.specs.declared.numbers.LineNo.{LineNo}
use Rattle.irq_model.specs.Kinds.{same_line, same_driver}
use Rattle.irq_model.proofs.Same.{same_self_line, line_from_same}
use Rattle.irq_laws.specs.Kept.{complete_by}
use Rattle.irq_laws.proofs.Chosen.{the_same}
use Rattle.board_def.specs.declared.rows.ScriptCall.{ScriptCall}
use Rattle.board_play.specs.Current.{calls_on, is_open, current_from}
use Rattle.board_play.specs.Lines.{BoardLine, find_line}
use Rattle.board_play.proofs.Members.{found}

-- ---- counts

abbrev pub is_on : LineNo → DriverNo → ScriptCall → Bool
is_on line r c = same_line c.line line && same_driver r c.driver

pub fewer : (line : LineNo) (r : DriverNo) (cs : List ScriptCall) (p q : ℕ) → p ≤ q → calls_on line r (take p cs) ≤ calls_on line r (take q cs)
fewer line r cs zero q le = omega arith
fewer line r cs (suc p) zero le = absurd (omega (arith, le))
fewer line r [] (suc p) (suc q) le = omega arith
fewer line r (c ∷ cs) (suc p) (suc q) le = by_test (is_on line r c) (fewer line r cs p q (omega (arith, le)))
  where
    by_test : (b : Bool) → calls_on line r (take p cs) ≤ calls_on line r (take q cs)
        → cond b (calls_on line r (take p cs) + 1) (calls_on line r (take p cs)) ≤ cond b (calls_on line r (take q cs) + 1) (calls_on line r (take q cs))
    by_test true deeper = omega (arith, deeper)
    by_test false deeper = deeper

pub one_longer : (line : LineNo) (r : DriverNo) (cs : List ScriptCall) (p : ℕ) (c : ScriptCall) → slice_get cs p ≡ Some c
    → calls_on line r (take (suc p) cs) ≡ cond (is_on line r c) (calls_on line r (take p cs) + 1) (calls_on line r (take p cs))
one_longer line r [] p c at = cc
one_longer line r (d ∷ cs) zero c at = ap (λ (x : ScriptCall). cond (is_on line r x) 1 0) (the_same d c at)
one_longer line r (d ∷ cs) (suc p) c at = by_tests (is_on line r d) (is_on line r c) (one_longer line r cs p c at)
  where
    by_tests : (b k : Bool) → calls_on line r (take (suc p) cs) ≡ cond k (calls_on line r (take p cs) + 1) (calls_on line r (take p cs))
        → cond b (calls_on line r (take (suc p) cs) + 1) (calls_on line r (take (suc p) cs))
        ≡ cond k (cond b (calls_on line r (take p cs) + 1) (calls_on line r (take p cs)) + 1)
        (cond b (calls_on line r (take p cs) + 1) (calls_on line r (take p cs)))
    by_tests true true deeper = ap (λ (n : ℕ). n + 1) deeper
    by_tests true false deeper = ap (λ (n : ℕ). n + 1) deeper
    by_tests false true deeper = deeper
    by_tests false false deeper = deeper

pub in_all : (line : LineNo) (r : DriverNo) (cs : List ScriptCall) (p : ℕ) (c : ScriptCall) → slice_get cs p ≡ Some c
    → is_on line r c ≡ true → calls_on line r (take p cs) < calls_on line r cs
in_all line r [] p c at on = cc
in_all line r (d ∷ cs) zero c at on =
    let here : is_on line r d ≡ true = ap (λ (x : ScriptCall). is_on line r x) (the_same d c at) ∙ on in
    subst (λ (b : Bool). 0 < cond b (calls_on line r cs + 1) (calls_on line r cs)) (sym here) (omega arith)
in_all line r (d ∷ cs) (suc p) c at on = by_test (is_on line r d) (in_all line r cs p c at on)
  where
    by_test : (b : Bool) → calls_on line r (take p cs) < calls_on line r cs
        → cond b (calls_on line r (take p cs) + 1) (calls_on line r (take p cs)) < cond b (calls_on line r cs + 1)
        (calls_on line r cs)
    by_test true deeper = omega (arith, deeper)
    by_test false deeper = deeper

-- ---- the current call

abbrev pub done : BoardLine → DriverNo → ℕ
done x r = length (complete_by x.def r x.past)

-- x is the line of its number
abbrev pub IsThe : List BoardLine → BoardLine → Type 0
IsThe lines x = find_line lines x.def.line ≡ Some x

module _ (lines : List BoardLine) (r : DriverNo) where
  -- the current call among `cs`, which stand behind the calls of `before`
  pub record Current (before cs : List ScriptCall) (x : BoardLine) : Type 0 where
    pub place : ℕ
    pub call : ScriptCall
    pub at : slice_get cs place ≡ Some call
    pub mine : same_driver r call.driver ≡ true
    pub line : call.line ≡ x.def.line
    pub found : find_line lines x.def.line ≡ Some x
    pub waits : done x r ≤ calls_on x.def.line r before + calls_on x.def.line r (take place cs)
    pub passed : (y : BoardLine) → IsThe lines y → calls_on y.def.line r before ≤ done y r
        → calls_on y.def.line r before + calls_on y.def.line r (take place cs) ≤ done y r

  is_the : (line : LineNo) (x : BoardLine) → find_line lines line ≡ Some x → line ≡ x.def.line
  is_the line x is = (found lines line x is).number

  -- a call that was passed over is complete, if it is the driver's on the line
  over : (c : ScriptCall) (before : List ScriptCall) → (same_driver r c.driver && is_open (find_line lines c.line) r (calls_on c.line r before)) ≡ false
      → (y : BoardLine) → IsThe lines y → calls_on y.def.line r before ≤ done y r → calls_on y.def.line r (c ∷ before) ≤ done y r
  over c before test y is le = by_tests (same_line c.line y.def.line) refl (same_driver r c.driver) test
    where
      complete : c.line ≡ y.def.line → is_open (find_line lines c.line) r (calls_on c.line r before) ≡ false → calls_on y.def.line r before + 1 ≤ done y r
      complete same closed =
          let shut : nat_le (done y r) (calls_on y.def.line r before) ≡ false =
          ap (λ (o : Option BoardLine). is_open o r (calls_on y.def.line r before)) (sym is)
          ∙ (ap (λ (l : LineNo). is_open (find_line lines l) r (calls_on l r before)) (sym same) ∙ closed) in
          let less = leb-false (done y r) (calls_on y.def.line r before) shut in
          omega (arith, less)

      by_tests : (l : Bool) → same_line c.line y.def.line ≡ l → (b : Bool) → (b && is_open (find_line lines c.line) r (calls_on c.line r before)) ≡ false
          → cond (l && b) (calls_on y.def.line r before + 1) (calls_on y.def.line r before) ≤ done y r
      by_tests true same true closed = complete (line_from_same c.line y.def.line same) closed
      by_tests true same false closed = le
      by_tests false same b closed = le

  shifted : (line : LineNo) (c : ScriptCall) (before cs : List ScriptCall)
      → calls_on line r (c ∷ before) + calls_on line r cs ≡ calls_on line r before + calls_on line r (c ∷ cs)
  shifted line c before cs = by_test (is_on line r c)
    where
      by_test : (b : Bool) → cond b (calls_on line r before + 1) (calls_on line r before) + calls_on line r cs
          ≡ calls_on line r before + cond b (calls_on line r cs + 1) (calls_on line r cs)
      by_test true = omega arith
      by_test false = refl

  pub current : (before cs : List ScriptCall) (x : BoardLine) → current_from lines r before cs ≡ Some x → Current before cs x
  current before [] x is = cc
  current before (c ∷ cs) x is = by_test (same_driver r c.driver && is_open (find_line lines c.line) r
      (calls_on c.line r before)) refl is (current (c ∷ before) cs x)
    where
      here : find_line lines c.line ≡ Some x → same_driver r c.driver ≡ true
          → is_open (find_line lines c.line) r (calls_on c.line r before) ≡ true → Current before (c ∷ cs) x
      here is mine waits =
          let same : c.line ≡ x.def.line = is_the c.line x is in
          let wide : nat_le (done x r) (calls_on x.def.line r before) ≡ true =
          ap (λ (o : Option BoardLine). is_open o r (calls_on x.def.line r before)) (sym is)
          ∙ (ap (λ (l : LineNo). is_open (find_line lines c.line) r (calls_on l r before)) (sym same) ∙ waits) in
          let le = leb-true (done x r) (calls_on x.def.line r before) wide in
          record {
            place = zero;
            call = c;
            at = refl;
            mine = mine;
            line = same;
            found = subst (λ (l : LineNo). find_line lines l ≡ Some x) same is;
            waits = omega (arith, le);
            passed = λ y is le. omega (arith, le);
          }

      later : (same_driver r c.driver && is_open (find_line lines c.line) r (calls_on c.line r before)) ≡ false
          → Current (c ∷ before) cs x → Current before (c ∷ cs) x
      later test k =
          let waits : done x r ≤ calls_on x.def.line r (c ∷ before) + calls_on x.def.line r (take k.place cs) = k.waits in
          record {
            place = suc k.place;
            call = k.call;
            at = k.at;
            mine = k.mine;
            line = k.line;
            found = k.found;
            waits = subst (λ (n : ℕ). done x r ≤ n) (shifted x.def.line c before (take k.place cs)) waits;
            passed = λ y is le. subst (λ (n : ℕ). n ≤ done y r) (shifted y.def.line c before (take k.place cs)) (k.passed y is (over c before test y is le));
          }

      by_test : (b : Bool) → (same_driver r c.driver && is_open (find_line lines c.line) r (calls_on c.line r before)) ≡ b
          → cond b (find_line lines c.line) (current_from lines r (c ∷ before) cs) ≡ Some x
          → (current_from lines r (c ∷ before) cs ≡ Some x → Current (c ∷ before) cs x) → Current before (c ∷ cs) x
      by_test true test is deeper = let b = and_parts (same_driver r c.driver) _ test in here is b.0 b.1
      by_test false test is deeper = later test (deeper is)

  -- if there is no current call, all calls are complete
  pub no_current : (before cs : List ScriptCall) → current_from lines r before cs ≡ None → (y : BoardLine)
      → IsThe lines y → calls_on y.def.line r before ≤ done y r
      → calls_on y.def.line r before + calls_on y.def.line r cs ≤ done y r
  no_current before [] is y the le = omega (arith, le)
  no_current before (c ∷ cs) is y the le = by_test (same_driver r c.driver && is_open (find_line lines c.line) r
      (calls_on c.line r before)) refl is (λ is le. no_current (c ∷ before) cs is y the le)
    where
      not_here : (o : Option BoardLine) (k : ℕ) → is_open o r k ≡ true → o ≡ None → ⊥
      not_here None k waits none = cc
      not_here (Some x) k waits none = cc

      by_test : (b : Bool) → (same_driver r c.driver && is_open (find_line lines c.line) r (calls_on c.line r before)) ≡ b
          → cond b (find_line lines c.line) (current_from lines r (c ∷ before) cs) ≡ None
          → (current_from lines r (c ∷ before) cs ≡ None → calls_on y.def.line r (c ∷ before) ≤ done y r
          → calls_on y.def.line r (c ∷ before) + calls_on y.def.line r cs ≤ done y r)
          → calls_on y.def.line r before + calls_on y.def.line r (c ∷ cs) ≤ done y r
      by_test true test is deeper = absurd (not_here (find_line lines c.line) (calls_on c.line r before) (and_parts (same_driver r c.driver) _ test).1 is)
      by_test false test is deeper = subst (λ (n : ℕ). n ≤ done y r) (shifted y.def.line c before cs) (deeper is (over c before test y the le))

  -- the first that isn't complete is the current one
  pub is_current : (before cs : List ScriptCall) (p : ℕ) (c : ScriptCall) (x : BoardLine)
      → ((y : BoardLine) → IsThe lines y → calls_on y.def.line r before + calls_on y.def.line r (take p cs) ≤ done y r)
      → slice_get cs p ≡ Some c → same_driver r c.driver ≡ true → c.line ≡ x.def.line → IsThe lines x
      → done x r ≤ calls_on x.def.line r before + calls_on x.def.line r (take p cs)
      → current_from lines r before cs ≡ Some x
  is_current before [] p c x passed at mine line the waits = cc
  is_current before (d ∷ cs) zero c x passed at mine line the waits =
      let same : d ≡ c = the_same d c at in
      let there : find_line lines d.line ≡ Some x = ap (λ (e : ScriptCall). find_line lines e.line) same
      ∙ (ap (λ (l : LineNo). find_line lines l) line ∙ the) in
      let number : d.line ≡ x.def.line = ap (λ (e : ScriptCall). e.line) same ∙ line in
      let wide : is_open (find_line lines d.line) r (calls_on d.line r before) ≡ true =
      ap (λ (o : Option BoardLine). is_open o r (calls_on d.line r before)) there
      ∙ (ap (λ (l : LineNo). nat_le (done x r) (calls_on l r before)) number
      ∙ le-leb (done x r) (calls_on x.def.line r before) (omega (arith, waits))) in
      let driver : same_driver r d.driver ≡ true = ap (λ (e : ScriptCall). same_driver r e.driver) same ∙ mine in
      ap (λ (b : Bool). cond (b && is_open (find_line lines d.line) r (calls_on d.line r before))
      (find_line lines d.line) (current_from lines r (d ∷ before) cs)) driver
      ∙ (ap (λ (b : Bool). cond b (find_line lines d.line) (current_from lines r (d ∷ before) cs)) wide ∙ there)
  is_current before (d ∷ cs) (suc p) c x passed at mine line the waits =
      ap (λ (b : Bool). cond b (find_line lines d.line) (current_from lines r (d ∷ before) cs))
      (closed (same_driver r d.driver) refl (find_line lines d.line) refl)
      ∙ is_current (d ∷ before) cs p c x (λ y the. subst (λ (n : ℕ). n ≤ done y r)
      (sym (shifted y.def.line d before (take p cs))) (passed y the)) at mine line the
      (subst (λ (n : ℕ). done x r ≤ n) (sym (shifted x.def.line d before (take p cs))) waits)
    where
      closed : (b : Bool) → same_driver r d.driver ≡ b → (o : Option BoardLine) → find_line lines d.line ≡ o
          → (b && is_open o r (calls_on d.line r before)) ≡ false
      closed false mine o there = refl
      closed true mine None there = refl
      closed true mine (Some y) there =
          let same : d.line ≡ y.def.line = is_the d.line y there in
          let the : IsThe lines y = subst (λ (l : LineNo). find_line lines l ≡ Some y) same there in
          let on : is_on y.def.line r d ≡ true = ap (λ (l : LineNo). same_line l y.def.line && same_driver r d.driver)
          same ∙ (ap (λ (b : Bool). b && same_driver r d.driver) (same_self_line y.def.line) ∙ mine) in
          let all : calls_on y.def.line r before + calls_on y.def.line r (take (suc p) (d ∷ cs)) ≤ done y r = passed y the in
          let more : calls_on y.def.line r before + (calls_on y.def.line r (take p cs) + 1) ≤ done y r =
          subst (λ (b : Bool). calls_on y.def.line r before + cond b (calls_on y.def.line r (take p cs) + 1)
          (calls_on y.def.line r (take p cs)) ≤ done y r) on all in
          ap (λ (l : LineNo). nat_le (done y r) (calls_on l r before)) same
          ∙ false_from_ne_true (nat_le (done y r) (calls_on y.def.line r before))
          (λ h. let le = leb-true (done y r) (calls_on y.def.line r before) h in omega (arith, le, more))
