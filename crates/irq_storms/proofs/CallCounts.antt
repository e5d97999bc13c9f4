-- What drivers add to a history: each driver adds the entries of its calls, so all drivers together
-- add no more entries than the calls of the line make.
use Rattle.std.proofs.Common.{◌≡◌, ℕ, ◌+◌, ◌*◌, ◌≤◌, Bool, true, false, not, ◌||◌, ◌&&◌, cond, List, []}
use Rattle.std.proofs.Common.{◌∷◌, length, refl, arith}
use Rattle.std.proofs.lemmas.Bool.{and_parts}
use Rattle.irq_base.specs.declared.numbers.DriverNo.{DriverNo}
use Rattle.irq_base.specs.declared.calls.Call.{Call}
use Rattle.irq_base.specs.declared.calls.Call.TheVariants as calls
use Rattle.irq_base.specs.declared.lines.LineDef.{LineDef}
use Rattle.irq_base.specs.declared.entries.Actor.TheVariants as actors
use Rattle.irq_base.specs.declared.entries.Entry.{Entry}
use Rattle.irq_base.specs.declared.entries.Entry.TheVariants as by
use Rattle.irq_base.specs.declared.entries.DriverEntry.TheVariants as drivers
use Rattle.irq_base.specs.declared.entries.CallEntry.{CallEntry}
use Rattle.irq_base.specs.declared.entries.CallEntry.TheVariants as called
use Rattle.irq_base.specs.declared.entries.UnlinkAnswer.TheVariants as unlinks
use Rattle.irq_model.specs.Places.{count_of}
use Rattle.irq_model.specs.Kinds.{is_any_ask, is_started_opened, opened_by_call}
use Rattle.irq_model.specs.Due.{entries_of_call, begins_not_there}
use Rattle.irq_model.specs.Bounds.{is_ask_call, ask_calls, other_calls}
use Rattle.irq_model.specs.Scripts.{MakesSteps, MakesAll, steps_in, FollowsScriptsPast}
use Rattle.irq_model.specs.Legal.{IsLegalPast}
use Rattle.irq_laws.proofs.Lists.{both_ways}
use Rattle.irq_laws.proofs.ScriptLaws.{is_shared, shared_all, few_steps, all_count, follows_past}
use Rattle.irq_storms.specs.Judged.{one_if}
use Rattle.irq_storms.specs.Tests.{total, is_by_any_driver, is_renewal}
use Rattle.irq_storms.proofs.Counting.{mark_most, count_more, count_imply, count_total}
use Rattle.irq_storms.proofs.Weights.{of_drivers as weighed}

-- a test of drivers' entries, and how often a call meets it at most
module _ (p : Entry → Bool) (w : Call → ℕ) (by_driver : (e : Entry) → p e ≡ true → is_by_any_driver e ≡ true)
    (most : (c : Call) (es : List Entry) → MakesAll c es → count_of p es ≤ w c) where
  marks_most : (c : Call) (es : List Entry) → MakesAll c es → total (λ e. one_if (p e)) es ≤ w c
  marks_most c es h = let m = most c es h in let t = count_total p es in omega (arith, m, t)

  drivers_alone : (e : Entry) → is_by_any_driver e ≡ false → one_if (p e) ≡ 0
  drivers_alone e other = by_test (p e) (λ h. by_driver e h)
    where
      by_test : (b : Bool) → (b ≡ true → is_by_any_driver e ≡ true) → one_if b ≡ 0
      by_test true h = both_ways (is_by_any_driver e) (h refl) other
      by_test false h = refl

  pub of_drivers : (def : LineDef) (past : List Entry) → FollowsScriptsPast def past → count_of p past ≤ total (λ c. w c.1) def.calls
  of_drivers def past follows =
      let sum = count_total p past in
      let all = weighed (λ e. one_if (p e)) w marks_most drivers_alone def past follows in
      omega (arith, sum, all)

-- ---- the three tests

at_most_one : (b : Bool) → cond b (0 + 1) 0 ≤ 1
at_most_one true = omega arith
at_most_one false = omega arith

-- the greatest number of entries that a call makes
abbrev pub most_entries : Call → ℕ
most_entries (calls.Ask dev) = 1
most_entries _ = 3

count_length : (p : Entry → Bool) (es : List Entry) → count_of p es ≤ length es
count_length p [] = omega arith
count_length p (e ∷ es) = let m = count_more p e es in let o = mark_most (p e) in let r = count_length p es in omega (arith, m, o, r)

few_entries : (c : Call) (es : List Entry) → entries_of_call c es ≤ most_entries c
few_entries (calls.Free d) es = by_first (begins_not_there es)
  where
    by_first : (b : Bool) → cond b 1 3 ≤ 3
    by_first true = omega arith
    by_first false = omega arith
few_entries c es = omega arith

most_made : (c : Call) (es : List Entry) → MakesAll c es → count_of is_by_any_driver es ≤ most_entries c
most_made c es h = let n = all_count c es h in let f = few_entries c es in let l = count_length is_by_any_driver es in omega (arith, n, f, l)

-- the entries of a call that drivers, handlers and threads make alike are steps

no_ask : (es : List Entry) → length (steps_in es) ≡ length es → count_of is_any_ask es ≡ 0
no_ask [] h = refl
no_ask (by.CpuCall c call ∷ es) h = no_ask es (omega (arith, h))
no_ask (by.ThreadCall x call ∷ es) h = no_ask es (omega (arith, h))
no_ask (by.DriverCall s call ∷ es) h = no_ask es (omega (arith, h))
no_ask (by.Cpu c e ∷ es) h = absurd (let f = few_steps es in omega (arith, f, h))
no_ask (by.Thread x e ∷ es) h = absurd (let f = few_steps es in omega (arith, f, h))
no_ask (by.Driver s e ∷ es) h = absurd (let f = few_steps es in omega (arith, f, h))

abbrev starts_line : CallEntry → Bool
starts_line call = is_started_opened (opened_by_call call)

start_alone : (b : Bool) → one_if (b || (false || false)) ≡ one_if b
start_alone true = refl
start_alone false = refl

more_steps : (n' m' n m x y : ℕ) → n' ≡ n + x → m' ≡ m + y → x ≡ y → n ≡ m → n' ≡ m'
more_steps n' m' n m x y h i j k = omega (arith, h, i, j, k)

starts_made : (es : List Entry) → length (steps_in es) ≡ length es → count_of is_renewal es ≡ count_of starts_line (steps_in es)
starts_made [] h = refl
starts_made (by.CpuCall c call ∷ es) h =
    more_steps _ _ _ _ _ _ (count_more is_renewal (by.CpuCall c call) es) (count_more starts_line call (steps_in es)) (start_alone (starts_line call))
    (starts_made es (omega (arith, h)))
starts_made (by.ThreadCall x call ∷ es) h =
    more_steps _ _ _ _ _ _ (count_more is_renewal (by.ThreadCall x call) es) (count_more starts_line call (steps_in es)) (start_alone (starts_line call))
    (starts_made es (omega (arith, h)))
starts_made (by.DriverCall s call ∷ es) h =
    more_steps _ _ _ _ _ _ (count_more is_renewal (by.DriverCall s call) es) (count_more starts_line call (steps_in es)) (start_alone (starts_line call))
    (starts_made es (omega (arith, h)))
starts_made (by.Cpu c e ∷ es) h = absurd (let f = few_steps es in omega (arith, f, h))
starts_made (by.Thread x e ∷ es) h = absurd (let f = few_steps es in omega (arith, f, h))
starts_made (by.Driver s e ∷ es) h = absurd (let f = few_steps es in omega (arith, f, h))

one_start : (c : Call) (cs : List CallEntry) → MakesSteps c cs → count_of starts_line cs ≤ 1
one_start (calls.Free d) (called.Unlink unlinks.NotThere dev ∷ []) h = omega arith
one_start (calls.Free d) (called.Unlink (unlinks.Unlinked last) dev ∷ called.HardClear ∷ called.Freed freed ∷ []) h = omega arith
one_start calls.Disable (called.Disable ∷ called.HardClear ∷ called.Synced ∷ []) h = omega arith
one_start calls.DisableNosync (called.Disable ∷ []) h = omega arith
one_start calls.Enable (called.Enable answer ∷ []) h = at_most_one (starts_line (called.Enable answer))
one_start calls.Sync (called.HardClear ∷ called.Synced ∷ []) h = omega arith
one_start calls.SyncHard (called.HardClear ∷ []) h = omega arith
one_start calls.DisableHard (called.Disable ∷ called.HardClear ∷ []) h = omega arith
one_start (calls.Wake d) (called.Wake woken dev ∷ []) h = omega arith
one_start (calls.Quiet d) (called.Quiet dev ∷ []) h = omega arith
one_start (calls.Arm d) (called.Arm edge dev ∷ []) h = omega arith
one_start (calls.Serve d) (called.Serve dev served ∷ []) h = omega arith
one_start c cs h = absurd h

abbrev pub Renews : Call → List Entry → Type 0
Renews c es = (count_of is_any_ask es ≤ one_if (is_ask_call c)) × (count_of is_renewal es ≤ one_if (not (is_ask_call c)))

shared_renews : (c : Call) → is_shared c ≡ true → (es : List Entry) → MakesAll c es → Renews c es
shared_renews c is es h =
    let m = shared_all c is es h in
    let none = no_ask es m.1 in
    let starts = starts_made es m.1 in
    let one = one_start c (steps_in es) m.0 in
    let other = no_ask_call c is in
    (by_none _ _ none, by_one _ _ _ other starts one)
  where
    by_none : (n m : ℕ) → n ≡ 0 → n ≤ m
    by_none n m h = omega (arith, h)

    by_one : (n m k : ℕ) → k ≡ 1 → n ≡ m → m ≤ 1 → n ≤ k
    by_one n m k h i j = omega (arith, h, i, j)

    no_ask_call : (c : Call) → is_shared c ≡ true → one_if (not (is_ask_call c)) ≡ 1
    no_ask_call (calls.Ask d) h = cc
    no_ask_call c h = refl

pub renews : (c : Call) (es : List Entry) → MakesAll c es → Renews c es
renews (calls.Ask d) (by.Driver r (drivers.Ask edge dev) ∷ []) h = (omega arith, omega arith)
renews (calls.Request d flags) (by.Driver r (drivers.Request given answer opened dev) ∷ []) h =
    (omega arith, at_most_one (is_renewal (by.Driver r (drivers.Request given answer opened dev))))
renews (calls.Affinity mask) (by.Driver r (drivers.Affinity answer given) ∷ []) h = (omega arith, omega arith)
renews (calls.Moment at) (by.Driver r (drivers.Moment given) ∷ []) h = (omega arith, omega arith)
renews (calls.Free d) es h = shared_renews (calls.Free d) refl es h
renews calls.Disable es h = shared_renews calls.Disable refl es h
renews calls.DisableNosync es h = shared_renews calls.DisableNosync refl es h
renews calls.Enable es h = shared_renews calls.Enable refl es h
renews calls.Sync es h = shared_renews calls.Sync refl es h
renews calls.SyncHard es h = shared_renews calls.SyncHard refl es h
renews calls.DisableHard es h = shared_renews calls.DisableHard refl es h
renews (calls.Wake d) es h = shared_renews (calls.Wake d) refl es h
renews (calls.Quiet d) es h = shared_renews (calls.Quiet d) refl es h
renews (calls.Arm d) es h = shared_renews (calls.Arm d) refl es h
renews (calls.Serve d) es h = shared_renews (calls.Serve d) refl es h
renews c es h = absurd h.0

ask_by_driver : (e : Entry) → is_any_ask e ≡ true → is_by_any_driver e ≡ true
ask_by_driver (by.Driver driver (drivers.Ask makes dev)) h = refl
ask_by_driver e h = cc

abbrev is_own_renewal : Entry → Bool
is_own_renewal e = is_by_any_driver e && is_renewal e

own_renewals_made : (c : Call) (es : List Entry) → MakesAll c es → count_of is_own_renewal es ≤ one_if (not (is_ask_call c))
own_renewals_made c es h =
    let all = (renews c es h).1 in
    let some = count_imply is_own_renewal is_renewal es (λ e own. (and_parts (is_by_any_driver e) (is_renewal e) own).1) in
    omega (arith, all, some)

-- ---- the weights of all calls

all_weights : (cs : List (DriverNo × Call)) → total (λ c. most_entries c.1) cs
    ≡ count_of (λ c. is_ask_call c.1) cs + 3 * count_of (λ c. not (is_ask_call c.1)) cs
all_weights [] = refl
all_weights (c ∷ cs) = by_call c.1 (all_weights cs)
  where
    by_ask : (m n t : ℕ) → t ≡ m + 3 * n → 1 + t ≡ (m + 1) + 3 * n
    by_ask m n t h = omega (arith, h)

    by_other : (m n t : ℕ) → t ≡ m + 3 * n → 3 + t ≡ m + 3 * (n + 1)
    by_other m n t h = omega (arith, h)

    by_call : (x : Call) → total (λ c. most_entries c.1) cs ≡ count_of (λ c. is_ask_call c.1) cs + 3 * count_of (λ c. not (is_ask_call c.1)) cs
        → most_entries x + total (λ c. most_entries c.1) cs
        ≡ cond (is_ask_call x) (count_of (λ c. is_ask_call c.1) cs + 1) (count_of (λ c. is_ask_call c.1) cs) + 3 * cond
        (not (is_ask_call x)) (count_of (λ c. not (is_ask_call c.1)) cs + 1)
        (count_of (λ c. not (is_ask_call c.1)) cs)
    by_call (calls.Ask d) h = by_ask _ _ _ h
    by_call (calls.Request d flags) h = by_other _ _ _ h
    by_call (calls.Free d) h = by_other _ _ _ h
    by_call calls.Disable h = by_other _ _ _ h
    by_call calls.DisableNosync h = by_other _ _ _ h
    by_call calls.Enable h = by_other _ _ _ h
    by_call calls.Sync h = by_other _ _ _ h
    by_call (calls.Affinity mask) h = by_other _ _ _ h
    by_call (calls.Moment at) h = by_other _ _ _ h
    by_call calls.SyncHard h = by_other _ _ _ h
    by_call calls.DisableHard h = by_other _ _ _ h
    by_call (calls.Wake d) h = by_other _ _ _ h
    by_call (calls.Quiet d) h = by_other _ _ _ h
    by_call (calls.Arm d) h = by_other _ _ _ h
    by_call (calls.Serve d) h = by_other _ _ _ h

-- ---- what drivers add

pub driver_entries : (def : LineDef) (past : List Entry) → IsLegalPast def past → count_of is_by_any_driver past ≤ ask_calls def + 3 * other_calls def
driver_entries def past legal =
    let all = of_drivers is_by_any_driver most_entries (λ e h. h) most_made def past (λ r. follows_past def past legal (actors.Driver r)) in
    let weights = all_weights def.calls in
    omega (arith, all, weights)

pub asks_of_drivers : (def : LineDef) (past : List Entry) → IsLegalPast def past → count_of is_any_ask past ≤ ask_calls def
asks_of_drivers def past legal =
    let all = of_drivers is_any_ask (λ c. one_if (is_ask_call c)) ask_by_driver (λ c es h. (renews c es h).0) def past
    (λ r. follows_past def past legal (actors.Driver r)) in
    let weights = count_total (λ (c : DriverNo × Call). is_ask_call c.1) def.calls in
    omega (arith, all, weights)

-- of the drivers' entries
pub renewals_of_drivers : (def : LineDef) (past : List Entry) → IsLegalPast def past
    → count_of (λ e. is_by_any_driver e && is_renewal e) past ≤ other_calls def
renewals_of_drivers def past legal =
    let all = of_drivers is_own_renewal (λ c. one_if (not (is_ask_call c)))
    (λ e own. (and_parts (is_by_any_driver e) (is_renewal e) own).0) own_renewals_made def past (λ r. follows_past def past legal (actors.Driver r)) in
    let weights = count_total (λ (c : DriverNo × Call). not (is_ask_call c.1)) def.calls in
    omega (arith, all, weights)
