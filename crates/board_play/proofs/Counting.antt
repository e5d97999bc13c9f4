-- How many of a driver's calls on a line are complete, and what that says of the call that is due.
use Rattle.std.proofs.Common.{◌≡◌, ℕ, suc, ◌+◌, ◌<◌, ◌≤◌, Bool, true, false, cond, Option, Some, None, List, [], ◌∷◌}
use Rattle.std.proofs.Common.{◌++◌, length, drop, filter, reverse, nat_lt, slice_get, refl, sym, ap, ◌∙◌, arith}
use Rattle.std.proofs.Common.{length-append, drop_of_length-le}
use Rattle.std.proofs.lemmas.List.{drop-append-le}
use Rattle.std.proofs.lemmas.Bool.{ltb-true, ltb-false, lt-ltb, le-ltb}
use Rattle.irq_base.specs.declared.calls.Call.{Call}
use Rattle.irq_base.specs.declared.entries.Entry.{Entry}
use Rattle.irq_base.specs.declared.lines.LineDef.{LineDef}
use Rattle.irq_base.specs.declared.numbers.DriverNo.{DriverNo}
use Rattle.irq_model.specs.Due.{calls_by, entries_by, entries_of_call, due_of, due_call}
use Rattle.irq_model.specs.Kinds.{is_by_driver}
use Rattle.irq_laws.specs.Kept.{complete, complete_by}
use Rattle.irq_laws.proofs.Chosen.{the_same}
use Rattle.irq_model.proofs.DueSteps.{entries_more, entries_same}
use Rattle.irq_laws.proofs.Progress.{makes_one, same_count, due_at, fresh}

-- the calls that are complete, counted
abbrev done_of : List Call → List Entry → ℕ
done_of [] es = 0
done_of (c ∷ cs) es = cond (nat_lt (length es) (entries_of_call c es)) 0 (done_of cs (drop (entries_of_call c es) es) + 1)

counted : (done cs : List Call) (es : List Entry) → length (complete done cs es) ≡ length done + done_of cs es
counted done [] es = omega arith
counted done (c ∷ cs) es = by_test (nat_lt (length es) (entries_of_call c es)) (counted (c ∷ done) cs (drop (entries_of_call c es) es))
  where
    by_test : (b : Bool) → length (complete (c ∷ done) cs (drop (entries_of_call c es) es)) ≡ length (c ∷ done) + done_of cs (drop (entries_of_call c es) es)
        → length (cond b done (complete (c ∷ done) cs (drop (entries_of_call c es) es)))
        ≡ length done + cond b 0 (done_of cs (drop (entries_of_call c es) es) + 1)
    by_test true deeper = omega arith
    by_test false deeper = omega (arith, deeper)

none_due : (cs : List Call) (es : List Entry) → due_of cs es ≡ None → done_of cs es ≡ length cs
none_due [] es is = refl
none_due (c ∷ cs) es is = by_test (nat_lt (length es) (entries_of_call c es)) is (none_due cs (drop (entries_of_call c es) es))
  where
    by_test : (b : Bool) → cond b (due_at c (length es)) (due_of cs (drop (entries_of_call c es) es)) ≡ None
        → (due_of cs (drop (entries_of_call c es) es) ≡ None → done_of cs (drop (entries_of_call c es) es) ≡ length cs)
        → cond b 0 (done_of cs (drop (entries_of_call c es) es) + 1) ≡ length (c ∷ cs)
    by_test true is deeper = cc
    by_test false is deeper = let n = deeper is in omega (arith, n)

some_due : (cs : List Call) (es : List Entry) (x : Call × ℕ) → due_of cs es ≡ Some x → done_of cs es < length cs
some_due [] es x is = cc
some_due (c ∷ cs) es x is = by_test (nat_lt (length es) (entries_of_call c es)) is (some_due cs (drop (entries_of_call c es) es) x)
  where
    by_test : (b : Bool) → cond b (due_at c (length es)) (due_of cs (drop (entries_of_call c es) es)) ≡ Some x
        → (due_of cs (drop (entries_of_call c es) es) ≡ Some x
        → done_of cs (drop (entries_of_call c es) es) < length cs)
        → cond b 0 (done_of cs (drop (entries_of_call c es) es) + 1) < length (c ∷ cs)
    by_test true is deeper = omega arith
    by_test false is deeper = let n = deeper is in omega (arith, n)

-- ---- one more entry, with which the call isn't complete

enough : (c : Call) (e : Entry) (xs : List Entry) → nat_lt (length xs) (entries_of_call c xs) ≡ true → length (xs ++ e ∷ []) ≤ entries_of_call c (xs ++ e ∷ [])
enough c e [] lt = makes_one c (e ∷ [])
enough c e (y ∷ ys) lt =
    let same : entries_of_call c ((y ∷ ys) ++ e ∷ []) ≡ entries_of_call c (y ∷ ys) = same_count c y (ys ++ e ∷ []) ys in
    let below = ltb-true (length (y ∷ ys)) (entries_of_call c (y ∷ ys)) lt in
    let l = length-append (y ∷ ys) (e ∷ []) in
    omega (arith, same, below, l)

-- past a call that is complete
record Passed (x : Call) (es : List Entry) (e : Entry) : Type 0 where
  pub complete : nat_lt (length (es ++ e ∷ [])) (entries_of_call x (es ++ e ∷ [])) ≡ false
  pub left : drop (entries_of_call x (es ++ e ∷ [])) (es ++ e ∷ []) ≡ drop (entries_of_call x es) es ++ e ∷ []

passed : (x : Call) (es : List Entry) (e : Entry) → nat_lt (length es) (entries_of_call x es) ≡ false → Passed x es e
passed x [] e full = absurd (let le = ltb-false 0 (entries_of_call x []) full in let one = makes_one x [] in omega (arith, le, one))
passed x (y ∷ ys) e full =
    let k = entries_of_call x (y ∷ ys) in
    let le : k ≤ length (y ∷ ys) = ltb-false (length (y ∷ ys)) k full in
    let same : entries_of_call x ((y ∷ ys) ++ e ∷ []) ≡ k = same_count x y (ys ++ e ∷ []) ys in
    let l = length-append (y ∷ ys) (e ∷ []) in
    record {
      complete = ap (λ (m : ℕ). nat_lt (length ((y ∷ ys) ++ e ∷ [])) m) same ∙ le-ltb (length ((y ∷ ys) ++ e ∷ [])) k (omega (arith, l, le));
      left = ap (λ (m : ℕ). drop m ((y ∷ ys) ++ e ∷ [])) same ∙ drop-append-le k (y ∷ ys) (e ∷ []) le;
    }

-- what is complete, and what is due, behind a call that is complete or isn't
abbrev done_at : List Call → Call → List Entry → Bool → ℕ
done_at cs x es b = cond b 0 (done_of cs (drop (entries_of_call x es) es) + 1)

abbrev due_then : List Call → Call → List Entry → Bool → Option (Call × ℕ)
due_then cs x es b = cond b (due_at x (length es)) (due_of cs (drop (entries_of_call x es) es))

goes_on : (cs : List Call) (es : List Entry) (e : Entry) (d : Call) (m : ℕ) → due_of cs (es ++ e ∷ []) ≡ Some (d, suc m)
    → done_of cs (es ++ e ∷ []) ≡ done_of cs es
goes_on [] es e d m is = cc
goes_on (x ∷ cs) es e d m is = by_test (nat_lt (length es) (entries_of_call x es)) refl (λ h. goes_on cs (drop (entries_of_call x es) es) e d m h)
  where
    within : (b : Bool) → nat_lt (length es) (entries_of_call x es) ≡ true
        → nat_lt (length (es ++ e ∷ [])) (entries_of_call x (es ++ e ∷ [])) ≡ b → done_at cs x (es ++ e ∷ []) b ≡ 0
    within true lt test = refl
    within false lt test =
        absurd
        (let none : drop (entries_of_call x (es ++ e ∷ [])) (es ++ e ∷ []) ≡ [] = drop_of_length-le (es ++ e ∷ []) (enough x e es lt) in
        let left : due_of cs [] ≡ Some (d, suc m) = ap (λ (xs : List Entry). due_of cs xs) (sym none) ∙ (ap (due_then cs x (es ++ e ∷ [])) (sym test) ∙ is) in
        let zero = fresh cs d (suc m) left in
        omega (arith, zero))

    by_test : (b : Bool) → nat_lt (length es) (entries_of_call x es) ≡ b
        → (due_of cs (drop (entries_of_call x es) es ++ e ∷ []) ≡ Some (d, suc m)
        → done_of cs (drop (entries_of_call x es) es ++ e ∷ []) ≡ done_of cs (drop (entries_of_call x es) es))
        → done_at cs x (es ++ e ∷ []) (nat_lt (length (es ++ e ∷ [])) (entries_of_call x (es ++ e ∷ [])))
        ≡ done_at cs x es (nat_lt (length es) (entries_of_call x es))
    by_test true test deeper = within (nat_lt (length (es ++ e ∷ [])) (entries_of_call x (es ++ e ∷ []))) test refl ∙ ap (done_at cs x es) (sym test)
    by_test false test deeper =
        let p = passed x es e test in
        let left : due_of cs (drop (entries_of_call x es) es ++ e ∷ [])
        ≡ Some (d, suc m) = ap (λ (xs : List Entry). due_of cs xs) (sym p.left)
        ∙ (ap (due_then cs x (es ++ e ∷ [])) (sym p.complete) ∙ is) in
        ap (done_at cs x (es ++ e ∷ [])) p.complete ∙ (ap (λ (xs : List Entry). done_of cs xs + 1) p.left
        ∙ (ap (λ (n : ℕ). n + 1) (deeper left) ∙ ap (done_at cs x es) (sym test)))

-- ---- one more entry, with which it is

none_done : (cs : List Call) → done_of cs [] ≡ 0
none_done [] = refl
none_done (c ∷ cs) = ap (done_at cs c []) (lt-ltb 0 (entries_of_call c []) (let one = makes_one c [] in omega (arith, one)))

goes_past : (cs : List Call) (es : List Entry) (e : Entry) (y : Call × ℕ) → due_of cs es ≡ Some y
    → ((d : Call) (m : ℕ) → due_of cs (es ++ e ∷ []) ≡ Some (d, suc m) → ⊥)
    → done_of cs (es ++ e ∷ []) ≡ done_of cs es + 1
goes_past [] es e y was not = cc
goes_past (x ∷ cs) es e y was not = by_test (nat_lt (length es) (entries_of_call x es)) refl (λ h k. goes_past cs (drop (entries_of_call x es) es) e y h k)
  where
    one_longer : length (es ++ e ∷ []) ≡ suc (length es)
    one_longer = let l = length-append es (e ∷ []) in omega (arith, l)

    within : (b : Bool) → nat_lt (length es) (entries_of_call x es) ≡ true
        → nat_lt (length (es ++ e ∷ [])) (entries_of_call x (es ++ e ∷ [])) ≡ b → done_at cs x (es ++ e ∷ []) b ≡ 1
    within true lt test = absurd (not x (length es) (ap (due_then cs x (es ++ e ∷ [])) test ∙ ap (λ (n : ℕ). due_at x n) one_longer))
    within false lt test =
        let none : drop (entries_of_call x (es ++ e ∷ [])) (es ++ e ∷ []) ≡ [] = drop_of_length-le (es ++ e ∷ []) (enough x e es lt) in
        ap (λ (xs : List Entry). done_of cs xs + 1) none ∙ ap (λ (n : ℕ). n + 1) (none_done cs)

    by_test : (b : Bool) → nat_lt (length es) (entries_of_call x es) ≡ b
        → (due_of cs (drop (entries_of_call x es) es) ≡ Some y
        → ((d : Call) (m : ℕ) → due_of cs (drop (entries_of_call x es) es ++ e ∷ []) ≡ Some (d, suc m) → ⊥)
        → done_of cs (drop (entries_of_call x es) es ++ e ∷ []) ≡ done_of cs (drop (entries_of_call x es) es) + 1)
        → done_at cs x (es ++ e ∷ []) (nat_lt (length (es ++ e ∷ [])) (entries_of_call x (es ++ e ∷ [])))
        ≡ done_at cs x es (nat_lt (length es) (entries_of_call x es)) + 1
    by_test true test deeper = within (nat_lt (length (es ++ e ∷ [])) (entries_of_call x (es ++ e ∷ []))) test refl
        ∙ ap (λ (b : Bool). done_at cs x es b + 1) (sym test)
    by_test false test deeper =
        let p = passed x es e test in
        let before : due_of cs (drop (entries_of_call x es) es) ≡ Some y = ap (due_then cs x es) (sym test) ∙ was in
        let after : (d : Call) (m : ℕ) → due_of cs (drop (entries_of_call x es) es ++ e ∷ []) ≡ Some (d, suc m) → ⊥ =
        λ d m h. not d m (ap (due_then cs x (es ++ e ∷ [])) p.complete ∙ (ap (λ (xs : List Entry). due_of cs xs) p.left ∙ h)) in
        ap (done_at cs x (es ++ e ∷ [])) p.complete ∙ (ap (λ (xs : List Entry). done_of cs xs + 1) p.left
        ∙ (ap (λ (n : ℕ). n + 1) (deeper before after) ∙ ap (λ (b : Bool). done_at cs x es b + 1) (sym test)))

-- ---- of a line

-- how many calls of the driver are complete
abbrev pub completed : LineDef → DriverNo → List Entry → ℕ
completed def r past = length (complete_by def r past)

is_done_of : (def : LineDef) (r : DriverNo) (past : List Entry) → completed def r past ≡ done_of (calls_by r def.calls) (entries_by r past)
is_done_of def r past = let n = counted [] (calls_by r def.calls) (entries_by r past) in omega (arith, n)

pub all_complete : (def : LineDef) (r : DriverNo) (past : List Entry) → due_call def r past ≡ None → completed def r past ≡ length (calls_by r def.calls)
all_complete def r past is = is_done_of def r past ∙ none_due (calls_by r def.calls) (entries_by r past) is

pub not_all_complete : (def : LineDef) (r : DriverNo) (past : List Entry) (x : Call × ℕ) → due_call def r past ≡ Some x
    → completed def r past < length (calls_by r def.calls)
not_all_complete def r past x is =
    let n = is_done_of def r past in
    let l = some_due (calls_by r def.calls) (entries_by r past) x is in
    omega (arith, n, l)

-- another's entry leaves a driver where it is
pub no_more : (def : LineDef) (r : DriverNo) (e : Entry) (past : List Entry) → is_by_driver r e ≡ false → due_call def r (e ∷ past) ≡ due_call def r past
no_more def r e past other = ap (λ (es : List Entry). due_of (calls_by r def.calls) es) (entries_same r e past other)

pub not_completed : (def : LineDef) (r : DriverNo) (e : Entry) (past : List Entry) (d : Call) (m : ℕ)
    → is_by_driver r e ≡ true → due_call def r (e ∷ past) ≡ Some (d, suc m)
    → completed def r (e ∷ past) ≡ completed def r past
not_completed def r e past d m mine is =
    let more = entries_more r e past mine in
    is_done_of def r (e ∷ past) ∙ (ap (λ (es : List Entry). done_of (calls_by r def.calls) es) more
    ∙ (goes_on (calls_by r def.calls) (entries_by r past) e d m
    (ap (λ (es : List Entry). due_of (calls_by r def.calls) es) (sym more) ∙ is) ∙ sym (is_done_of def r past)))

pub others_complete : (def : LineDef) (r : DriverNo) (e : Entry) (past : List Entry) → is_by_driver r e ≡ false
    → completed def r (e ∷ past) ≡ completed def r past
others_complete def r e past other = ap (λ (b : Bool). length
    (complete [] (calls_by r def.calls) (reverse (cond b (e ∷ filter (is_by_driver r) past)
    (filter (is_by_driver r) past))))) other

pub one_completed : (def : LineDef) (r : DriverNo) (e : Entry) (past : List Entry) (x : Call × ℕ) → is_by_driver r e ≡ true → due_call def r past ≡ Some x
    → ((d : Call) (m : ℕ) → due_call def r (e ∷ past) ≡ Some (d, suc m) → ⊥) → completed def r (e ∷ past) ≡ completed def r past + 1
one_completed def r e past x mine was not =
    let more = entries_more r e past mine in
    is_done_of def r (e ∷ past) ∙ (ap (λ (es : List Entry). done_of (calls_by r def.calls) es) more
    ∙ (goes_past (calls_by r def.calls) (entries_by r past) e x was
    (λ d m h. not d m (ap (λ (es : List Entry). due_of (calls_by r def.calls) es) more ∙ h))
    ∙ ap (λ (n : ℕ). n + 1) (sym (is_done_of def r past))))

pub none_complete : (def : LineDef) (r : DriverNo) → completed def r [] ≡ 0
none_complete def r = is_done_of def r [] ∙ none_done (calls_by r def.calls)

-- ---- which call is due

due_is_kth : (cs : List Call) (es : List Entry) (c : Call) → slice_get cs (done_of cs es) ≡ Some c → (n : ℕ) × (due_of cs es ≡ Some (c, n))
due_is_kth [] es c at = cc
due_is_kth (x ∷ cs) es c at = by_test (nat_lt (length es) (entries_of_call x es)) refl (λ h. due_is_kth cs (drop (entries_of_call x es) es) c h)
  where
    by_test : (b : Bool) → nat_lt (length es) (entries_of_call x es) ≡ b
        → (slice_get cs (done_of cs (drop (entries_of_call x es) es)) ≡ Some c → (n : ℕ) × (due_of cs (drop (entries_of_call x es) es) ≡ Some (c, n)))
        → (n : ℕ) × (due_then cs x es (nat_lt (length es) (entries_of_call x es)) ≡ Some (c, n))
    by_test true test deeper =
        let same : x ≡ c = the_same x c (ap (λ (b : Bool). slice_get (x ∷ cs) (done_at cs x es b)) (sym test) ∙ at) in
        (length es, ap (due_then cs x es) test ∙ ap (λ (y : Call). due_at y (length es)) same)
    by_test false test deeper =
        let next : done_at cs x es false ≡ suc (done_of cs (drop (entries_of_call x es) es)) = omega arith in
        let d = deeper (ap (λ (n : ℕ). slice_get (x ∷ cs) n) (sym next) ∙ (ap (λ (b : Bool). slice_get (x ∷ cs) (done_at cs x es b)) (sym test) ∙ at)) in
        (d.0, ap (due_then cs x es) test ∙ d.1)

pub kth_is_due : (def : LineDef) (r : DriverNo) (past : List Entry) (c : Call)
    → slice_get (calls_by r def.calls) (completed def r past) ≡ Some c → (n : ℕ) × (due_call def r past ≡ Some (c, n))
kth_is_due def r past c at = due_is_kth (calls_by r def.calls) (entries_by r past) c
    (ap (λ (n : ℕ). slice_get (calls_by r def.calls) n) (sym (is_done_of def r past)) ∙ at)
