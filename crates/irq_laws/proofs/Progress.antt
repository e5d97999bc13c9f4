-- How far an actor is in its script, after one more entry.
use Rattle.std.proofs.Common.{◌≡◌, ℕ, suc, ◌+◌, ◌<◌, ◌≤◌, ◌⊎◌, inl, inr, Bool, true, false, cond, Option, Some, List}
use Rattle.std.proofs.Common.{[], ◌∷◌, ◌++◌, length, drop, nat_lt, refl, sym, ap, ap₂, ◌∙◌, subst, arith}
use Rattle.std.proofs.Common.{length-append, drop_of_length-le}
use Rattle.std.proofs.lemmas.List.{drop-append-le}
use Rattle.std.proofs.lemmas.Bool.{ltb-true, ltb-false, lt-ltb, le-ltb}
use Rattle.irq_base.specs.declared.numbers.DevNo.{DevNo}
use Rattle.irq_base.specs.declared.calls.Call.{Call}
use Rattle.irq_base.specs.declared.calls.Call.TheVariants as calls
use Rattle.irq_base.specs.declared.lines.LineDef.{LineDef}
use Rattle.irq_base.specs.declared.entries.Actor.{Actor}
use Rattle.irq_base.specs.declared.entries.Entry.{Entry}
use Rattle.irq_model.specs.Kinds.{is_by}
use Rattle.irq_model.specs.Due.{begins_not_there, entries_of_call, due_of}
use Rattle.irq_model.proofs.DueSteps.{each_makes_some, by_first}
use Rattle.irq_laws.specs.Actors.{calls_of, entries_of, due_of_actor}
use Rattle.irq_laws.proofs.ActorSteps.{Turn, goes, stays, begins, ends}
use Rattle.irq_laws.proofs.Chosen.{the_same}
use Rattle.irq_laws.proofs.Lists.{both_ways}

-- a call makes at least one entry, and one more behind the first doesn't change how many
pub makes_one : (c : Call) (es : List Entry) → 1 ≤ entries_of_call c es
makes_one c es = each_makes_some c es

pub same_count : (c : Call) (y : Entry) (ys zs : List Entry) → entries_of_call c (y ∷ ys) ≡ entries_of_call c (y ∷ zs)
same_count c y ys zs = by_first c y ys zs

-- if the due call is c: the calls after it, and its entries
pub record Standing (cs : List Call) (es : List Entry) (c : Call) (n : ℕ) : Type 0 where
  pub rest : List Call
  pub own : List Entry
  pub counts : n ≡ length own
  pub incomplete : nat_lt (length own) (entries_of_call c own) ≡ true
  pub more : (e : Entry) → due_of cs (es ++ e ∷ []) ≡ due_of (c ∷ rest) (own ++ e ∷ [])

abbrev pub due_at : Call → ℕ → Option (Call × ℕ)
due_at c n = Some (c, n)

pub same_call : (x c : Call) (m n : ℕ) → due_at x m ≡ due_at c n → (x ≡ c) × (m ≡ n)
same_call x c m n h =
    let p : Call × ℕ = (x, m) in
    let q : Call × ℕ = (c, n) in
    let same : p ≡ q = the_same p q h in
    (ap (λ (y : Call × ℕ). y.0) same, ap (λ (y : Call × ℕ). y.1) same)

pub passes : (x : Call) (cs : List Call) (y e : Entry) (ys : List Entry) → nat_lt (length (y ∷ ys)) (entries_of_call x (y ∷ ys)) ≡ false
    → due_of (x ∷ cs) ((y ∷ ys) ++ e ∷ []) ≡ due_of cs (drop (entries_of_call x (y ∷ ys)) (y ∷ ys) ++ e ∷ [])
passes x cs y e ys full =
    let k = entries_of_call x (y ∷ ys) in
    let le : k ≤ length (y ∷ ys) = ltb-false (length (y ∷ ys)) k full in
    let same : entries_of_call x ((y ∷ ys) ++ e ∷ []) ≡ k = same_count x y (ys ++ e ∷ []) ys in
    let long : nat_lt (length ((y ∷ ys) ++ e ∷ [])) k ≡ false
    = le-ltb (length ((y ∷ ys) ++ e ∷ [])) k (let l = length-append (y ∷ ys) (e ∷ []) in omega (arith, l, le)) in
    ap (λ (m : ℕ). cond (nat_lt (length ((y ∷ ys) ++ e ∷ [])) m) (due_at x (length ((y ∷ ys) ++ e ∷ []))) (due_of cs (drop m ((y ∷ ys) ++ e ∷ [])))) same
    ∙ ap (λ (b : Bool). cond b (due_at x (length ((y ∷ ys) ++ e ∷ []))) (due_of cs (drop k ((y ∷ ys) ++ e ∷ [])))) long
    ∙ ap (λ (xs : List Entry). due_of cs xs) (drop-append-le k (y ∷ ys) (e ∷ []) le)

pub standing : (cs : List Call) (es : List Entry) (c : Call) (n : ℕ) → due_of cs es ≡ Some (c, n) → Standing cs es c n
standing [] es c n h = cc
standing (x ∷ cs) es c n h = at_head (nat_lt (length es) (entries_of_call x es)) refl (λ more. standing cs (drop (entries_of_call x es) es) c n more)
  where
    here : x ≡ c → n ≡ length es → nat_lt (length es) (entries_of_call x es) ≡ true → Standing (x ∷ cs) es c n
    here same counts some =
        record {
          rest = cs;
          own = es;
          counts = counts;
          incomplete = subst (λ (y : Call). nat_lt (length es) (entries_of_call y es) ≡ true) same some;
          more = λ e. ap (λ (y : Call). due_of (y ∷ cs) (es ++ e ∷ [])) same;
        }

    later : (es : List Entry) → nat_lt (length es) (entries_of_call x es) ≡ false → Standing cs (drop (entries_of_call x es) es) c n → Standing (x ∷ cs) es c n
    later [] full s = absurd (let le = ltb-false 0 (entries_of_call x []) full in let one = makes_one x [] in omega (arith, le, one))
    later (y ∷ ys) full s = record { rest = s.rest; own = s.own; counts = s.counts; incomplete = s.incomplete; more = λ e. passes x cs y e ys full ∙ s.more e }

    at_head : (b : Bool) → nat_lt (length es) (entries_of_call x es) ≡ b
        → (due_of cs (drop (entries_of_call x es) es) ≡ Some (c, n) → Standing cs (drop (entries_of_call x es) es) c n)
        → Standing (x ∷ cs) es c n
    at_head true is deeper = let s = same_call x c (length es) n
        (ap (λ (b : Bool). cond b (due_at x (length es)) (due_of cs (drop (entries_of_call x es) es))) (sym is) ∙ h) in
        here s.0 (sym s.1) is
    at_head false is deeper = later es is (deeper (ap (λ (b : Bool). cond b (due_at x (length es)) (due_of cs (drop (entries_of_call x es) es))) (sym is) ∙ h))

-- the first call that is left has made no entry
pub fresh : (cs : List Call) (c : Call) (n : ℕ) → due_of cs [] ≡ Some (c, n) → n ≡ 0
fresh [] c n h = cc
fresh (x ∷ cs) c n h =
    let some : nat_lt 0 (entries_of_call x []) ≡ true = lt-ltb 0 (entries_of_call x []) (let one = makes_one x [] in omega (arith, one)) in
    sym (same_call x c 0 n (ap (λ (b : Bool). cond b (due_at x 0) (due_of cs (drop (entries_of_call x []) []))) (sym some) ∙ h)).1

-- one more entry: the due call goes on, or the next is due with none of its entries
pub goes_on : (c : Call) (rest : List Call) (own : List Entry) (e : Entry) (d : Call) (n : ℕ) → nat_lt (length own) (entries_of_call c own) ≡ true
    → due_of (c ∷ rest) (own ++ e ∷ []) ≡ Some (d, n) → ((d ≡ c) × (n ≡ length own + 1) × (nat_lt n (entries_of_call c (own ++ e ∷ [])) ≡ true)) ⊎ (n ≡ 0)
goes_on c rest own e d n some h = by_test (nat_lt (length (own ++ e ∷ [])) (entries_of_call c (own ++ e ∷ []))) refl
  where
    count : length (own ++ e ∷ []) ≡ length own + 1
    count = length-append own (e ∷ [])

    enough : (xs : List Entry) → nat_lt (length xs) (entries_of_call c xs) ≡ true → length (xs ++ e ∷ []) ≤ entries_of_call c (xs ++ e ∷ [])
    enough [] lt = makes_one c (e ∷ [])
    enough (y ∷ ys) lt =
        let same : entries_of_call c ((y ∷ ys) ++ e ∷ []) ≡ entries_of_call c (y ∷ ys) = same_count c y (ys ++ e ∷ []) ys in
        let below = ltb-true (length (y ∷ ys)) (entries_of_call c (y ∷ ys)) lt in
        let l = length-append (y ∷ ys) (e ∷ []) in
        omega (arith, same, below, l)

    by_test : (b : Bool) → nat_lt (length (own ++ e ∷ [])) (entries_of_call c (own ++ e ∷ [])) ≡ b
        → ((d ≡ c) × (n ≡ length own + 1) × (nat_lt n (entries_of_call c (own ++ e ∷ [])) ≡ true)) ⊎ (n ≡ 0)
    by_test true is =
        let s = same_call c d (length (own ++ e ∷ [])) n
        (ap (λ (b : Bool). cond b (due_at c (length (own ++ e ∷ [])))
        (due_of rest (drop (entries_of_call c (own ++ e ∷ [])) (own ++ e ∷ [])))) (sym is) ∙ h) in
        inl (sym s.0, sym s.1 ∙ count, subst (λ (m : ℕ). nat_lt m (entries_of_call c (own ++ e ∷ [])) ≡ true) s.1 is)
    by_test false is =
        let none : drop (entries_of_call c (own ++ e ∷ [])) (own ++ e ∷ []) ≡ [] = drop_of_length-le (own ++ e ∷ []) (enough own some) in
        inr (fresh rest d n (ap (λ (xs : List Entry). due_of rest xs) (sym none)
        ∙ (ap (λ (b : Bool). cond b (due_at c (length (own ++ e ∷ [])))
        (due_of rest (drop (entries_of_call c (own ++ e ∷ [])) (own ++ e ∷ [])))) (sym is) ∙ h)))

-- ---- the same over the past

-- after one more entry: the same call is due with one entry more, or the next with none
abbrev pub OneMore : Call → ℕ → Entry → Call → ℕ → Type 0
OneMore c n e d m = ((d ≡ c) × (m ≡ n + 1) × (n ≡ 0 → nat_lt m (entries_of_call c (e ∷ [])) ≡ true)) ⊎ (m ≡ 0)

none_own : (own : List Entry) → length own ≡ 0 → own ≡ []
none_own [] h = refl
none_own (x ∷ xs) h = absurd (omega (arith, h))

pub after_standing : (cs : List Call) (es : List Entry) (e : Entry) (c : Call) (n : ℕ) (d : Call) (m : ℕ)
    → Standing cs es c n → due_of cs (es ++ e ∷ []) ≡ Some (d, m) → OneMore c n e d m
after_standing cs es e c n d m s is = by_case (goes_on c s.rest s.own e d m s.incomplete (sym (s.more e) ∙ is))
  where
    by_case : ((d ≡ c) × (m ≡ length s.own + 1) × (nat_lt m (entries_of_call c (s.own ++ e ∷ [])) ≡ true)) ⊎ (m ≡ 0) → OneMore c n e d m
    by_case (inl h) =
        inl (
          h.0,
          (let l = s.counts in let k = h.1 in omega (arith, l, k)),
          λ zero. subst
              (λ (xs : List Entry). nat_lt m (entries_of_call c (xs ++ e ∷ [])) ≡ true)
              (none_own s.own (sym s.counts ∙ zero)) h.2,
        )
    by_case (inr h) = inr h

-- an actor that is past the first entry of a call: it was there before, or the entry is of that call
pub data Within (def : LineDef) (a : Actor) (e : Entry) (past : List Entry) (d : Call) (m : ℕ) : Type 0 where
  earlier : is_by a e ≡ false → due_of_actor def a past ≡ Some (d, suc m) → Within def a e past d m
  by_this : is_by a e ≡ true → due_of_actor def a past ≡ Some (d, m)
      → (m ≡ 0 → nat_lt 1 (entries_of_call d (e ∷ [])) ≡ true) → Within def a e past d m

pub within : (def : LineDef) (a : Actor) (e : Entry) (past : List Entry) (d : Call) (m : ℕ) → Turn def a e past
    → due_of_actor def a (e ∷ past) ≡ Some (d, suc m) → Within def a e past d m
within def a e past d m (stays other cs es) h =
    earlier other (sym (ap₂ (λ (x : List Call) (y : List Entry). due_of x y) cs es) ∙ h)
within def a e past d m (begins none es) h =
    absurd (let zero = fresh (calls_of def a (e ∷ past)) d (suc m)
    (sym (ap (λ (y : List Entry). due_of (calls_of def a (e ∷ past)) y) es) ∙ h) in omega (arith, zero))
within def a e past d m (ends none cs es) h =
    let n = sym (ap₂ (λ (x : List Call) (y : List Entry). due_of x y) cs es) ∙ h in cc
within def a e past d m (goes mine due is_due cs es) h =
    by_case due.0 due.1 is_due (after_standing (calls_of def a past) (entries_of def a past) e due.0 due.1 d (suc m)
    (standing (calls_of def a past) (entries_of def a past) due.0 due.1 is_due) more)
  where
    more : due_of (calls_of def a past) (entries_of def a past ++ e ∷ []) ≡ Some (d, suc m)
    more = sym (ap₂ (λ (x : List Call) (y : List Entry). due_of x y) cs es) ∙ h

    by_case : (c : Call) (n : ℕ) → due_of_actor def a past ≡ Some (c, n) → OneMore c n e d (suc m) → Within def a e past d m
    by_case c n is (inl o) =
        let same : m ≡ n = (let k = o.1 in omega (arith, k)) in
        let before : due_of_actor def a past ≡ Some (d, m) = is ∙ ap₂ (λ (x : Call) (k : ℕ). Some (x, k)) (sym o.0) (sym same) in
        by_this mine before (λ zero. subst (λ (k : ℕ). nat_lt k (entries_of_call d (e ∷ [])) ≡ true) (ap suc zero)
        (subst (λ (x : Call). nat_lt (suc m) (entries_of_call x (e ∷ [])) ≡ true) (sym o.0) (o.2 (sym same ∙ zero))))
    by_case c n is (inr zero) = absurd (omega (arith, zero))

-- a free makes at most three entries
pub free_below : (cs : List Call) (es : List Entry) (d : DevNo) (n : ℕ) → due_of cs es ≡ Some (calls.Free d, n) → n < 3
free_below cs es d n is =
    let s = standing cs es (calls.Free d) n is in
    let counts : n ≡ length s.own = s.counts in
    let below = ltb-true (length s.own) (entries_of_call (calls.Free d) s.own) s.incomplete in
    let most = at_most (begins_not_there s.own) in
    omega (arith, counts, below, most)
  where
    at_most : (b : Bool) → cond b 1 3 ≤ 3
    at_most true = omega arith
    at_most false = omega arith

-- the due call goes on with e as one entry more
pub goes_on_with : (def : LineDef) (a : Actor) (e : Entry) (past : List Entry) (c : Call) (n : ℕ) → Turn def a e past → is_by a e ≡ true
    → due_of_actor def a past ≡ Some (c, n)
    → ((own : List Entry) → length own ≡ n → nat_lt (length own) (entries_of_call c own) ≡ true
    → nat_lt (length (own ++ e ∷ [])) (entries_of_call c (own ++ e ∷ [])) ≡ true)
    → due_of_actor def a (e ∷ past) ≡ Some (c, n + 1)
goes_on_with def a e past c n (stays other cs es) mine there more = both_ways (is_by a e) mine other
goes_on_with def a e past c n (begins none es) mine there more = let m = sym none ∙ there in cc
goes_on_with def a e past c n (ends none cs es) mine there more = let m = sym none ∙ there in cc
goes_on_with def a e past c n (goes by due is_due cs es) mine there more =
    let s = standing (calls_of def a past) (entries_of def a past) c n there in
    let lt = more s.own (sym s.counts) s.incomplete in
    let count : length (s.own ++ e ∷ []) ≡ n + 1 = (let l = length-append s.own (e ∷ []) in let m = s.counts in omega (arith, l, m)) in
    ap₂ (λ (x : List Call) (y : List Entry). due_of x y) cs es ∙ s.more e
    ∙ ap (λ (b : Bool). cond b (due_at c (length (s.own ++ e ∷ []))) (due_of s.rest (drop (entries_of_call c (s.own ++ e ∷ [])) (s.own ++ e ∷ [])))) lt
    ∙ ap (λ (m : ℕ). due_at c m) count

-- an entry that isn't an actor's leaves its due call, if it has one
pub still_due : (def : LineDef) (a : Actor) (e : Entry) (past : List Entry) (c : Call) (n : ℕ) → Turn def a e past → is_by a e ≡ false
    → due_of_actor def a past ≡ Some (c, n) → due_of_actor def a (e ∷ past) ≡ Some (c, n)
still_due def a e past c n (goes by due is_due cs es) other there = both_ways (is_by a e) by other
still_due def a e past c n (stays by cs es) other there = ap₂ (λ (x : List Call) (y : List Entry). due_of x y) cs es ∙ there
still_due def a e past c n (begins none es) other there = let m = sym none ∙ there in cc
still_due def a e past c n (ends none cs es) other there = let m = sym none ∙ there in cc
