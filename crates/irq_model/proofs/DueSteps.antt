-- What one more entry makes of the due call: the call's place, and how many entries it has made.
use Rattle.std.proofs.Common.{◌≡◌, ℕ, zero, suc, ◌+◌, ◌<◌, ◌≤◌, Bool, true, false, cond, subst, eq-eqb, option_map}
use Rattle.std.proofs.Common.{Some, List, [], ◌∷◌, ◌++◌, length, drop, filter, slice_get, refl, sym, ap, ◌∙◌, arith}
use Rattle.std.proofs.Common.{length-append}
use Rattle.std.proofs.lemmas.Bool.Decides.{nat_tests}
use Rattle.std.proofs.lemmas.List.{drop-append-le, drop_all, reverse-append}
use Rattle.irq_base.specs.declared.calls.Call.{Call}
use Rattle.irq_base.specs.declared.calls.Call.TheVariants as calls
use Rattle.irq_base.specs.declared.entries.Entry.{Entry}
use Rattle.irq_base.specs.declared.numbers.DriverNo.{DriverNo}
use Rattle.irq_model.specs.Due.{begins_not_there, entries_of_call, due_of, calls_by, entries_by}
use Rattle.irq_model.specs.Kinds.{same_driver, is_by_driver}
use Rattle.irq_model.specs.Laid.{Laid, with_count}

first_due : (c : Call) (cs : List Call) (es : List Entry) (k : ℕ) → length es ≡ k → k < entries_of_call c es → due_of (c ∷ cs) es ≡ Some (c, k)
first_due c cs es k e lt = grind (arith, nat_tests)

later_due : (c : Call) (cs : List Call) (es : List Entry) → entries_of_call c es ≤ length es → due_of (c ∷ cs) es ≡ due_of cs (drop (entries_of_call c es) es)
later_due c cs es le = grind (arith, nat_tests)

-- the due call is the call at place p, which has made k entries
pub due_laid : (cs : List Call) (es : List Entry) (p k : ℕ) → Laid cs es p k → due_of cs es ≡ with_count (slice_get cs p) k
due_laid [] es zero k h = refl
due_laid [] es (suc p) k h = absurd h
due_laid (c ∷ cs) es zero k h = first_due c cs es k h.0 h.1
due_laid (c ∷ cs) es (suc p) k h = later_due c cs es h.0 ∙ due_laid cs (drop (entries_of_call c es) es) p k h.1

free_makes_some : (b : Bool) → 0 < cond b 1 3
free_makes_some true = omega arith
free_makes_some false = omega arith

pub each_makes_some : (c : Call) (es : List Entry) → 0 < entries_of_call c es
each_makes_some (calls.Ask dev) es = omega arith
each_makes_some (calls.Request dev flags) es = omega arith
each_makes_some (calls.Free dev) es = free_makes_some (begins_not_there es)
each_makes_some calls.Disable es = omega arith
each_makes_some calls.DisableNosync es = omega arith
each_makes_some calls.Enable es = omega arith
each_makes_some calls.Sync es = omega arith
each_makes_some (calls.Affinity mask) es = omega arith
each_makes_some (calls.Moment at) es = omega arith
each_makes_some calls.SyncHard es = omega arith
each_makes_some calls.DisableHard es = omega arith
each_makes_some (calls.Wake dev) es = omega arith
each_makes_some (calls.Quiet dev) es = omega arith
each_makes_some (calls.Arm dev) es = omega arith
each_makes_some (calls.Serve dev) es = omega arith

first_only : (x : Entry) (xs ys : List Entry) → begins_not_there (x ∷ xs) ≡ begins_not_there (x ∷ ys)
first_only x xs ys = refl

-- its first entry says how many entries a call makes
pub by_first : (c : Call) (x : Entry) (xs ys : List Entry) → entries_of_call c (x ∷ xs) ≡ entries_of_call c (x ∷ ys)
by_first (calls.Free dev) x xs ys = ap (λ b. cond b 1 3) (first_only x xs ys)
by_first (calls.Ask dev) x xs ys = refl
by_first (calls.Request dev flags) x xs ys = refl
by_first calls.Disable x xs ys = refl
by_first calls.DisableNosync x xs ys = refl
by_first calls.Enable x xs ys = refl
by_first calls.Sync x xs ys = refl
by_first (calls.Affinity mask) x xs ys = refl
by_first (calls.Moment at) x xs ys = refl
by_first calls.SyncHard x xs ys = refl
by_first calls.DisableHard x xs ys = refl
by_first (calls.Wake dev) x xs ys = refl
by_first (calls.Quiet dev) x xs ys = refl
by_first (calls.Arm dev) x xs ys = refl
by_first (calls.Serve dev) x xs ys = refl

pub makes_as_many : (c : Call) (es : List Entry) (e : Entry) → 1 ≤ length es → entries_of_call c (es ++ e ∷ []) ≡ entries_of_call c es
makes_as_many c [] e h = absurd (omega arith)
makes_as_many c (x ∷ es) e h = by_first c x (es ++ e ∷ []) es

ap_call : (d c : Call) → Some d ≡ Some c → d ≡ c
ap_call d c h = cc

-- the entries of the call at a place
abbrev pub part_at : List Call → List Entry → ℕ → List Entry
part_at [] es p = es
part_at (c ∷ cs) es zero = es
part_at (c ∷ cs) es (suc p) = part_at cs (drop (entries_of_call c es) es) p

pub part_length : (cs : List Call) (es : List Entry) (p k : ℕ) (c : Call) → Laid cs es p k → slice_get cs p ≡ Some c → length (part_at cs es p) ≡ k
part_length [] es p k c h at = cc
part_length (d ∷ cs) es zero k c h at = h.0
part_length (d ∷ cs) es (suc p) k c h at = part_length cs (drop (entries_of_call d es) es) p k c h.1 at

pub laid_within : (cs : List Call) (es : List Entry) (p k : ℕ) (c : Call) → Laid cs es p k → slice_get cs p ≡ Some c → k < entries_of_call c (part_at cs es p)
laid_within [] es p k c h at = cc
laid_within (d ∷ cs) es zero k c h at = subst (λ (x : Call). k < entries_of_call x es) (ap_call d c at) h.1
laid_within (d ∷ cs) es (suc p) k c h at = laid_within cs (drop (entries_of_call d es) es) p k c h.1 at

-- a call that is there in part goes on as it began
pub goes_on : (cs : List Call) (es : List Entry) (p k : ℕ) (c : Call) (e : Entry) → Laid cs es p k → slice_get cs p ≡ Some c → 1 ≤ k
    → entries_of_call c (part_at cs es p ++ e ∷ []) ≡ entries_of_call c (part_at cs es p)
goes_on cs es p k c e h at some = makes_as_many c (part_at cs es p) e (omega (arith, part_length cs es p k c h at))

-- the start of the rest
pub laid_start : (cs : List Call) → Laid cs [] zero 0
laid_start [] = (refl, refl)
laid_start (c ∷ cs) = (refl, each_makes_some c [])

past_one : (c : Call) (es : List Entry) (e : Entry) → entries_of_call c es ≤ length es
    → drop (entries_of_call c (es ++ e ∷ [])) (es ++ e ∷ []) ≡ drop (entries_of_call c es) es ++ e ∷ []
past_one c es e le =
    let some : 0 < entries_of_call c es = each_makes_some c es in
    ap (λ n. drop n (es ++ e ∷ [])) (makes_as_many c es e (omega arith)) ∙ drop-append-le (entries_of_call c es) es (e ∷ []) le

still_past : (c : Call) (es : List Entry) (e : Entry) → entries_of_call c es ≤ length es → entries_of_call c (es ++ e ∷ []) ≤ length (es ++ e ∷ [])
still_past c es e le =
    let some : 0 < entries_of_call c es = each_makes_some c es in
    omega (arith, makes_as_many c es e (omega arith), length-append es (e ∷ []))

-- one more entry of the due call
pub laid_more : (cs : List Call) (es : List Entry) (p k : ℕ) (c : Call) (e : Entry) → Laid cs es p k → slice_get cs p ≡ Some c
    → k + 1 < entries_of_call c (part_at cs es p ++ e ∷ []) → Laid cs (es ++ e ∷ []) p (k + 1)
laid_more [] es p k c e h at lt = cc
laid_more (d ∷ cs) es zero k c e h at lt = (
  omega (arith, length-append es (e ∷ []), h.0),
  subst
      (λ (x : Call). k + 1 < entries_of_call x (es ++ e ∷ [])) (sym (ap_call d c at)) lt,
)
laid_more (d ∷ cs) es (suc p) k c e h at lt =
    let rest : List Entry → Type 0 = λ xs. Laid cs xs p (k + 1) in
    (still_past d es e h.0, subst rest (sym (past_one d es e h.0)) (laid_more cs (drop (entries_of_call d es) es) p k c e h.1 at lt))

laid_next : (d : Call) (cs : List Call) (es : List Entry) → entries_of_call d es ≡ length es → Laid (d ∷ cs) es (suc zero) 0
laid_next d cs es eq =
    let rest : List Entry → Type 0 = λ xs. Laid cs xs zero 0 in
    (omega (arith, eq), subst rest (sym (drop_all (entries_of_call d es) es (omega (arith, eq)))) (laid_start cs))

-- the last entry of the due call
pub laid_done : (cs : List Call) (es : List Entry) (p k : ℕ) (c : Call) (e : Entry) → Laid cs es p k → slice_get cs p ≡ Some c
    → k + 1 ≡ entries_of_call c (part_at cs es p ++ e ∷ []) → Laid cs (es ++ e ∷ []) (suc p) 0
laid_done [] es p k c e h at eq = cc
laid_done (d ∷ cs) es zero k c e h at eq =
    let all : entries_of_call d (es ++ e ∷ []) ≡ length (es ++ e ∷ [])
    = ap (λ (x : Call). entries_of_call x (es ++ e ∷ [])) (ap_call d c at)
    ∙ (sym eq ∙ omega (arith, length-append es (e ∷ []), h.0)) in
    laid_next d cs (es ++ e ∷ []) all
laid_done (d ∷ cs) es (suc p) k c e h at eq =
    let rest : List Entry → Type 0 = λ xs. Laid cs xs (suc p) 0 in
    (still_past d es e h.0, subst rest (sym (past_one d es e h.0)) (laid_done cs (drop (entries_of_call d es) es) p k c e h.1 at eq))

same_driver_of : (r t : DriverNo) → t ≡ r → same_driver r t ≡ true
same_driver_of r t e = eq-eqb r.0 t.0 (ap (λ x. x.0) (sym e))

other_driver_of : (r t u : DriverNo) → u ≡ r → same_driver t r ≡ false → same_driver t u ≡ false
other_driver_of r t u e differs = ap (same_driver t) e ∙ differs

-- if all calls are of r, they are its calls in order
pub all_by : (r : DriverNo) (cs : List (DriverNo × Call)) (p : ℕ)
    → ((q : ℕ) (c : DriverNo × Call) → slice_get cs q ≡ Some c → c.0 ≡ r)
    → slice_get (calls_by r cs) p ≡ option_map (λ c. c.1) (slice_get cs p)
all_by r [] p h = refl
all_by r (c ∷ cs) zero h = rw (same_driver_of r c.0 (h zero c refl)) refl
all_by r (c ∷ cs) (suc p) h = rw (same_driver_of r c.0 (h zero c refl)) (all_by r cs p (λ q x is. h (suc q) x is))

-- and another driver has none
pub none_by : (r t : DriverNo) (cs : List (DriverNo × Call)) → same_driver t r ≡ false
    → ((q : ℕ) (c : DriverNo × Call) → slice_get cs q ≡ Some c → c.0 ≡ r) → calls_by t cs ≡ []
none_by r t [] differs h = refl
none_by r t (c ∷ cs) differs h = rw (other_driver_of r t c.0 (h zero c refl) differs) (none_by r t cs differs (λ q x is. h (suc q) x is))

-- a driver's entry comes last of its entries, and another's isn't among them
pub entries_more : (r : DriverNo) (e : Entry) (past : List Entry) → is_by_driver r e ≡ true → entries_by r (e ∷ past) ≡ entries_by r past ++ e ∷ []
entries_more r e past is = rw is (reverse-append (e ∷ []) (filter (is_by_driver r) past))

pub entries_same : (r : DriverNo) (e : Entry) (past : List Entry) → is_by_driver r e ≡ false → entries_by r (e ∷ past) ≡ entries_by r past
entries_same r e past is = rw is refl
