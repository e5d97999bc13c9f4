-- The due call of a run, where no run moves the line or waits.
use Rattle.std.proofs.Common.{◌≡◌, ℕ, Bool, true, false, not, ◌&&◌, cond, Option, Some, None, List, [], ◌∷◌, option_map, refl, sym, ap, ◌∙◌, subst}
use Rattle.std.specs.List.{list_any, AllByRecursion}
use Rattle.std.proofs.lemmas.Bool.{or_parts}
use Rattle.irq_base.specs.declared.numbers.CpuNo.{CpuNo}
use Rattle.irq_base.specs.declared.numbers.DevNo.{DevNo}
use Rattle.irq_base.specs.declared.calls.Call.{Call}
use Rattle.irq_base.specs.declared.calls.Call.TheVariants as calls
use Rattle.irq_base.specs.declared.devices.Part.{Part}
use Rattle.irq_base.specs.declared.devices.Part.TheVariants as parts
use Rattle.irq_base.specs.declared.lines.LineDef.{LineDef}
use Rattle.irq_base.specs.declared.entries.Actor.{Actor}
use Rattle.irq_base.specs.declared.entries.Actor.TheVariants as actors
use Rattle.irq_base.specs.declared.entries.Entry.{Entry}
use Rattle.irq_base.specs.declared.entries.CallEntry.{CallEntry}
use Rattle.irq_model.specs.Kinds.{same_dev, made_by, disables, unlinks_one}
use Rattle.irq_model.specs.Lines.{kind_of, run_script, script_in, same_part}
use Rattle.irq_model.specs.Due.{due_of}
use Rattle.irq_model.specs.Runs.{due_in_run, entries_of_run, makes_calls}
use Rattle.irq_model.specs.Next.{next_step}
use Rattle.irq_model.specs.Legal.{IsDue}
use Rattle.irq_model.specs.ValidRuns.{HasValidRuns, may_stand}
use Rattle.irq_laws.proofs.Chosen.{the_same}
use Rattle.irq_laws.proofs.ImpliesFlow.{handler_call_due}
use Rattle.irq_laws.proofs.ImpliesThread.{thread_call_due}
use Rattle.irq_laws.proofs.Requested.{one_of}
use Rattle.irq_laws.proofs.Standstill.{run_stands}
use Rattle.irq_pm.specs.Sleeping.{enables, moves_or_waits, has_calm_runs}

script_calm : (runs : List (DevNo × Part × Call)) (d : DevNo) (part : Part) → list_any (λ c. moves_or_waits c.2) runs ≡ false
    → AllByRecursion (λ c. not (moves_or_waits c) ≡ true) (script_in runs d part)
script_calm [] d part h = tt
script_calm (c ∷ cs) d part h = by_test (same_dev d c.0 && same_part part c.1) refl (script_calm cs d part p.1)
  where
    p : (moves_or_waits c.2 ≡ false) × (list_any (λ c. moves_or_waits c.2) cs ≡ false)
    p = or_parts (moves_or_waits c.2) _ h

    by_test : (b : Bool) → (same_dev d c.0 && same_part part c.1) ≡ b
        → AllByRecursion (λ c. not (moves_or_waits c) ≡ true) (script_in cs d part)
        → AllByRecursion (λ c. not (moves_or_waits c) ≡ true) (script_in (c ∷ cs) d part)
    by_test true is rest = rw is (ap not p.0, rest)
    by_test false is rest = rw is rest

not_false : (b : Bool) → not b ≡ true → b ≡ false
not_false true h = cc
not_false false h = refl

pub calm_due : (def : LineDef) (past : List Entry) (part : Part) (d : DevNo) (c : Call) (n : ℕ) → has_calm_runs def ≡ true
    → due_in_run def part d past ≡ Some (c, n) → moves_or_waits c ≡ false
calm_due def past part d c n calm h = by_test (makes_calls def part d past) refl
  where
    by_test : (b : Bool) → makes_calls def part d past ≡ b → moves_or_waits c ≡ false
    by_test true is = not_false (moves_or_waits c) (one_of (λ x. not (moves_or_waits x)) (run_script def d part) (entries_of_run part d past) c n
        (script_calm def.runs d part (not_false (list_any (λ c. moves_or_waits c.2) def.runs) calm))
        (ap (λ (b : Bool). cond b (due_of (run_script def d part) (entries_of_run part d past)) None) (sym is) ∙ h))
    by_test false is = let x = ap (λ (b : Bool). cond b (due_of (run_script def d part) (entries_of_run part d past)) None) (sym is) ∙ h in cc

-- ---- its step moves nothing

abbrev MovesNot : CallEntry → Type 0
MovesNot call = (disables call ≡ false) × (enables call ≡ false) × (unlinks_one call ≡ false)

step_moves_not : (def : LineDef) (past : List Entry) (c : Call) (n : ℕ) (call : CallEntry) → moves_or_waits c ≡ false
    → next_step def past (c, n) ≡ Some call → MovesNot call
step_moves_not def past (calls.Wake d) n call calm h = subst MovesNot (the_same _ _ h) (refl, refl, refl)
step_moves_not def past (calls.Quiet d) n call calm h = subst MovesNot (the_same _ _ h) (refl, refl, refl)
step_moves_not def past (calls.Arm d) n call calm h = subst MovesNot (the_same _ _ h) (refl, refl, refl)
step_moves_not def past (calls.Serve d) n call calm h = subst MovesNot (the_same _ _ h) (refl, refl, refl)
step_moves_not def past c n call calm h = cc

pub handler_moves_not : (def : LineDef) (c : CpuNo) (call : CallEntry) (past : List Entry) → has_calm_runs def ≡ true
    → IsDue def (made_by (actors.Cpu c) call) past → MovesNot call
handler_moves_not def c call past calm due =
    let u = handler_call_due def c call past due in
    step_moves_not def past u.due.0 u.due.1 call (calm_due def past parts.Primary u.dev u.due.0 u.due.1 calm u.is_due) u.step

pub thread_moves_not : (def : LineDef) (d : DevNo) (call : CallEntry) (past : List Entry) → has_calm_runs def ≡ true
    → IsDue def (made_by (actors.Thread d) call) past → MovesNot call
thread_moves_not def d call past calm due =
    let u = thread_call_due def d call past due in
    step_moves_not def past u.due.0 u.due.1 call (calm_due def past parts.Thread d u.due.0 u.due.1 calm u.is_due) u.step

-- ---- and waits for nobody

never_none : (def : LineDef) (past : List Entry) (part : Part) (d : DevNo) (c : Call) (n : ℕ) → moves_or_waits c ≡ false
    → may_stand (kind_of def d) part d c ≡ true → next_step def past (c, n) ≡ None → ⊥
never_none def past part d (calls.Ask x) n calm may h = cc
never_none def past part d (calls.Request x flags) n calm may h = cc
never_none def past part d (calls.Affinity mask) n calm may h = cc
never_none def past part d (calls.Moment at) n calm may h = cc
never_none def past part d c n calm may h = cc

not_made : (a : Actor) (o : Option CallEntry) → option_map (made_by a) o ≡ None → o ≡ None
not_made a None h = refl
not_made a (Some call) h = cc

pub run_goes_on : (def : LineDef) (past : List Entry) (part : Part) (d : DevNo) (a : Actor) (c : Call) (n : ℕ) → has_calm_runs def ≡ true → HasValidRuns def
    → due_in_run def part d past ≡ Some (c, n) → option_map (made_by a) (next_step def past (c, n)) ≡ None → ⊥
run_goes_on def past part d a c n calm runs is h =
    never_none def past part d c n (calm_due def past part d c n calm is) (run_stands def past part d c n runs is) (not_made a _ h)
