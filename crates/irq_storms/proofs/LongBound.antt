-- How long a history is: by its takes, by its rounds, and by the calls of drivers.
use Rattle.std.proofs.Common.{◌≡◌, ℕ, ◌+◌, ◌*◌, ◌≤◌, Bool, true, false, cond, Option, Some, List, [], ◌∷◌, length, refl, ap, ◌∙◌, arith}
use Rattle.irq_base.specs.declared.numbers.DevNo.{DevNo}
use Rattle.irq_base.specs.declared.calls.Call.{Call}
use Rattle.irq_base.specs.declared.calls.Call.TheVariants as calls
use Rattle.irq_base.specs.declared.devices.Kind.{Kind}
use Rattle.irq_base.specs.declared.devices.Part.TheVariants as parts
use Rattle.irq_base.specs.declared.lines.LineDef.{LineDef}
use Rattle.irq_base.specs.declared.entries.Actor.TheVariants as actors
use Rattle.irq_base.specs.declared.entries.Entry.{Entry}
use Rattle.irq_base.specs.declared.entries.Entry.TheVariants as by
use Rattle.irq_base.specs.declared.entries.CpuEntry.TheVariants as cpus
use Rattle.irq_base.specs.declared.entries.CallEntry.{CallEntry}
use Rattle.irq_base.specs.declared.entries.CallEntry.TheVariants as called
use Rattle.irq_model.specs.Places.{count_of}
use Rattle.irq_model.specs.Kinds.{is_wake, is_take, is_start}
use Rattle.irq_model.specs.Lines.{kind_of}
use Rattle.irq_model.specs.Rounds.{begins_round}
use Rattle.irq_model.specs.Legal.{IsDue, IsLegalPast}
use Rattle.irq_model.specs.Valid.{IsValid}
use Rattle.irq_model.specs.ValidRuns.{HasValidRuns, may_stand}
use Rattle.irq_laws.proofs.ImpliesCall.{Row, step_row, unlink, free_clear, freed, disable, disable_clear, disable_synced, nosync, enable}
use Rattle.irq_laws.proofs.ImpliesCall.{sync_clear, synced, hard, hard_disable, hard_disable_clear, wake, quiet, arm, serve}
use Rattle.irq_laws.proofs.ImpliesThread.{thread_call_due}
use Rattle.irq_laws.proofs.ScriptLaws.{follows_past}
use Rattle.irq_laws.proofs.Standstill.{run_stands}
use Rattle.irq_storms.specs.Judged.{one_if}
use Rattle.irq_storms.specs.Tests.{is_end, total}
use Rattle.irq_storms.proofs.Counting.{count_more}
use Rattle.irq_storms.proofs.RunCounts.{rounds_past}
use Rattle.irq_storms.proofs.Weights.{of_drivers}
use Rattle.irq_storms.proofs.Paying.{sum_over, sum_below}
use Rattle.irq_storms.proofs.CallCosts.{starting_cost, wake_cost, driver_cost, driver_weight, driver_call, drivers_cost_alone}
use Rattle.irq_storms.proofs.HandlerRuns.{script_cost, run_cost, run_pays, runs_paid}
use Rattle.irq_storms.proofs.BeginCosts.{begin_pays, begins_paid}
use Rattle.irq_storms.proofs.WakeCosts.{thread_weight, of_thread, wake_pays, threads_paid}

-- ---- a thread wakes none

pub wake_call : (def : LineDef) (due : Option (Call × ℕ)) (past : List Entry) (woken : Bool) (d : DevNo) → Row def due past (called.Wake woken d)
    → (n : ℕ) × (due ≡ Some (calls.Wake d, n))
wake_call def due past woken d (wake x n is same) = let s : x ≡ d = cc in (n, is ∙ ap (λ (y : DevNo). Some (calls.Wake y, n)) s)
wake_call def due past woken d (unlink x is free same) = cc
wake_call def due past woken d (free_clear x is no_flow same) = cc
wake_call def due past woken d (freed x n is some more rest same) = cc
wake_call def due past woken d (disable is same) = cc
wake_call def due past woken d (disable_clear is no_flow same) = cc
wake_call def due past woken d (disable_synced n is some more rest same) = cc
wake_call def due past woken d (nosync n is same) = cc
wake_call def due past woken d (enable n is same) = cc
wake_call def due past woken d (sync_clear is no_flow same) = cc
wake_call def due past woken d (synced n is some rest same) = cc
wake_call def due past woken d (hard n is no_flow same) = cc
wake_call def due past woken d (hard_disable is same) = cc
wake_call def due past woken d (hard_disable_clear n is some no_flow same) = cc
wake_call def due past woken d (quiet x n is same) = cc
wake_call def due past woken d (arm x n is same) = cc
wake_call def due past woken d (serve x n is same) = cc

no_wake_stands : {P : Type 0} (kind : Kind) (d x : DevNo) → may_stand kind parts.Thread d (calls.Wake x) ≡ true → P
no_wake_stands kind d x h = cc

pub thread_wakes_none : (def : LineDef) (x : DevNo) (call : CallEntry) (past : List Entry) → HasValidRuns def
    → IsDue def (by.ThreadCall x call) past → (h : DevNo → ℕ) → wake_cost h call ≡ 0
thread_wakes_none def x (called.Wake woken d) past runs due h =
    let u = thread_call_due def x (called.Wake woken d) past due in
    let row = step_row def (Some u.due) u.due.0 u.due.1 past (called.Wake woken d) refl u.step in
    let w = wake_call def (Some u.due) past woken d row in
    no_wake_stands (kind_of def x) x d (run_stands def past parts.Thread x (calls.Wake d) w.0 runs (u.is_due ∙ w.1))
thread_wakes_none def x call past runs due h = refl

-- a handler's call, or a thread's
abbrev pub is_run_call : Entry → Bool
is_run_call (by.CpuCall cpu call) = true
is_run_call (by.ThreadCall dev call) = true
is_run_call _ = false

-- ---- what each entry costs

abbrev pub entry_cost : Entry → ℕ
entry_cost e = starting_cost (is_start e)

length_cost : (past : List Entry) → length past + 2 * count_of is_start past ≡ sum_over (λ e past. entry_cost e) past
length_cost [] = refl
length_cost (e ∷ past) =
    let r = length_cost past in
    let m = count_more is_start e past in
    omega (arith, r, m)

module _ (def : LineDef) where
  abbrev h : DevNo → ℕ
  h = thread_weight def

  -- a handler's run, with the threads that it wakes
  abbrev pub handler_weight : DevNo → ℕ
  handler_weight d = 2 + h d + script_cost def h d

  woken_once : (b : Bool) (n : ℕ) → 1 + cond b n 0 ≤ 1 + n
  woken_once true n = omega arith
  woken_once false n = omega arith

  abbrev Costs : Entry → List Entry → Type 0
  Costs e past = entry_cost e + wake_pays def e ≤ one_if (is_take e) + one_if (is_end e) + run_cost def h e past + of_thread e + driver_cost h e

  costs : (e : Entry) (past : List Entry) → HasValidRuns def → IsDue def e past → Costs e past
  costs (by.Cpu c (cpus.Take way answer)) past runs due = omega arith
  costs (by.Cpu c (cpus.Begin x)) past runs due = omega arith
  costs (by.Cpu c (cpus.Return answer x served)) past runs due = let w = woken_once (is_wake answer) (h x) in omega (arith, w)
  costs (by.Cpu c (cpus.End again unmask note)) past runs due = omega arith
  costs (by.CpuCall c call) past runs due = omega arith
  costs (by.Thread x e) past runs due = omega arith
  costs (by.ThreadCall x call) past runs due = let w = thread_wakes_none def x call past runs due h in omega (arith, w)
  costs (by.Driver r e) past runs due = omega arith
  costs (by.DriverCall r call) past runs due = omega arith

  all_costs : (past : List Entry) → HasValidRuns def → IsLegalPast def past
      → sum_over (λ e past. entry_cost e) past + total (wake_pays def) past
      ≤ count_of is_take past + count_of is_end past + sum_over (run_cost def h) past + total of_thread past + total (driver_cost h) past
  all_costs [] runs legal = omega arith
  all_costs (e ∷ past) runs legal =
      let r = all_costs past runs legal.1 in
      let c = costs e past runs legal.0 in
      let t = count_more is_take e past in
      let n = count_more is_end e past in
      omega (arith, r, c, t, n)

  pays_same : (e : Entry) → run_pays def h e ≤ begin_pays def handler_weight e
  pays_same (by.Cpu c (cpus.Begin x)) = omega arith
  pays_same e = omega arith

  -- the rounds pay for the runs of handlers
  pub by_rounds : (past : List Entry) → IsValid def → HasValidRuns def → IsLegalPast def past
      → length past + 2 * count_of is_start past ≤ count_of is_take past + count_of (begins_round def) past
      + total (λ x. handler_weight x.dev) def.devices * count_of (begins_round def) past + total (λ c. driver_weight h c.1) def.calls
  by_rounds past valid runs legal =
      let n = length_cost past in
      let a = all_costs past runs legal in
      let t = threads_paid def past legal in
      let r = runs_paid def h past legal in
      let s = sum_below def (λ e past. run_pays def h e) (λ e past. begin_pays def handler_weight e) (λ e past legal. pays_same e) past legal in
      let b = begins_paid def handler_weight past valid legal in
      let d = of_drivers (driver_cost h) (driver_weight h) (driver_call h) (drivers_cost_alone h) def past
      (λ q. follows_past def past legal (actors.Driver q)) in
      let e = rounds_past def past legal in
      omega (arith, n, a, t, r, s, b, d, e)

  -- ---- the calls of runs alone

  run_calls_cost : (e : Entry) (past : List Entry) → HasValidRuns def → IsDue def e past
      → one_if (is_run_call e) + wake_pays def e ≤ run_cost def h e past + of_thread e + driver_cost h e
  run_calls_cost (by.Cpu c (cpus.Take way answer)) past runs due = omega arith
  run_calls_cost (by.Cpu c (cpus.Begin x)) past runs due = omega arith
  run_calls_cost (by.Cpu c (cpus.Return answer x served)) past runs due = let w = woken_once (is_wake answer) (h x) in omega (arith, w)
  run_calls_cost (by.Cpu c (cpus.End again unmask note)) past runs due = omega arith
  run_calls_cost (by.CpuCall c call) past runs due = omega arith
  run_calls_cost (by.Thread x e) past runs due = omega arith
  run_calls_cost (by.ThreadCall x call) past runs due = let w = thread_wakes_none def x call past runs due h in omega (arith, w)
  run_calls_cost (by.Driver r e) past runs due = omega arith
  run_calls_cost (by.DriverCall r call) past runs due = omega arith

  run_calls_costs : (past : List Entry) → HasValidRuns def → IsLegalPast def past
      → count_of is_run_call past + total (wake_pays def) past ≤ sum_over (run_cost def h) past + total of_thread past + total (driver_cost h) past
  run_calls_costs [] runs legal = omega arith
  run_calls_costs (e ∷ past) runs legal =
      let r = run_calls_costs past runs legal.1 in
      let c = run_calls_cost e past runs legal.0 in
      let m = count_more is_run_call e past in
      omega (arith, r, c, m)

  -- they are no more than what the rounds and the drivers' calls pay for
  pub run_calls_paid : (past : List Entry) → IsValid def → HasValidRuns def → IsLegalPast def past
      → count_of is_run_call past ≤ total (λ x. handler_weight x.dev) def.devices * count_of (begins_round def) past +
      total (λ c. driver_weight h c.1) def.calls
  run_calls_paid past valid runs legal =
      let a = run_calls_costs past runs legal in
      let t = threads_paid def past legal in
      let r = runs_paid def h past legal in
      let s = sum_below def (λ e past. run_pays def h e) (λ e past. begin_pays def handler_weight e) (λ e past legal. pays_same e) past legal in
      let b = begins_paid def handler_weight past valid legal in
      let d = of_drivers (driver_cost h) (driver_weight h) (driver_call h) (drivers_cost_alone h) def past
      (λ q. follows_past def past legal (actors.Driver q)) in
      omega (arith, a, t, r, s, b, d)
