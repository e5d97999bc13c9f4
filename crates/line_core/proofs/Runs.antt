-- The run that the entry of a due step ends is what the state says.
use Rattle.std.proofs.Common.{◌≡◌, true, Some, None, List, refl, sym, ap}
use Rattle.irq_base.specs.declared.calls.Flags.{Flags}
use Rattle.irq_base.specs.declared.devices.Part.{Part}
use Rattle.irq_base.specs.declared.devices.Part.TheVariants as parts
use Rattle.irq_base.specs.declared.devices.Run.{Run}
use Rattle.irq_base.specs.declared.entries.Entry.{Entry}
use Rattle.irq_base.specs.declared.entries.LinkAnswer.{LinkAnswer}
use Rattle.irq_base.specs.declared.entries.LinkAnswer.TheVariants as links
use Rattle.irq_base.specs.declared.lines.LineDef.{LineDef}
use Rattle.irq_base.specs.declared.numbers.DevNo.{DevNo}
use Rattle.irq_base.specs.declared.numbers.DriverNo.{DriverNo}
use Rattle.irq_laws.proofs.ImpliesFlow.{return_due}
use Rattle.irq_laws.proofs.ImpliesThread.{thread_return_due}
use Rattle.irq_laws.proofs.KeptAlways.{kept}
use Rattle.irq_laws.proofs.RestKept.{called_there, running_there, there_named}
use Rattle.irq_model.specs.Legal.{IsDue, IsLegalPast}
use Rattle.irq_model.specs.Lines.{has_device}
use Rattle.irq_model.specs.Valid.{IsValid}
use Rattle.act_list.specs.Actions.{answer_by}
use Rattle.ask_counts.specs.Facts.{all_facts}
use Rattle.ask_counts.specs.declared.facts.DeviceFacts.{DeviceFacts}
use Rattle.irq_line.specs.Runs.{device_of, run_at, run_ended}
use Rattle.line_marks.proofs.FactsFixed.{facts_are}
use Rattle.line_marks.proofs.RunsAre.{met_is, told_is}
use Rattle.line_marks.specs.Actions.{actions_of}
use Rattle.line_marks.specs.DriversDue.{request_to}
use Rattle.line_marks.specs.Facts.{kind_at}
use Rattle.line_marks.specs.State.{StateSeen, state_of}
use Rattle.line_state.specs.Ended.{device_at, run_there}
use Rattle.line_state.specs.Entries.{entry_by}
use Rattle.line_state.specs.declared.due.DriverStep.TheVariants as driver_steps
use Rattle.line_state.specs.declared.due.CpuStep.TheVariants as cpus
use Rattle.line_state.specs.declared.due.DueStep.{DueStep}
use Rattle.line_state.specs.declared.due.DueStep.TheVariants as steps
use Rattle.line_state.specs.declared.due.ThreadStep.TheVariants as threads
use Rattle.line_core.specs.Running.{run_by}

-- a request ends no run, whatever its answer
request_ends_none : (def : LineDef) (past : List Entry) (s : StateSeen) (r : DriverNo) (d : DevNo) (flags : Flags)
    (a : LinkAnswer) → run_ended def past (request_to def r d flags s a) ≡ None
request_ends_none def past s r d flags links.Linked = refl
request_ends_none def past s r d flags (links.Refused error) = refl

same_run : (a b : Run) → a.def ≡ b.def → a.part ≡ b.part → a.unserved ≡ b.unserved → a.told ≡ b.told → a ≡ b
same_run a b h i j k = (let e : ◌≡◌ {A = Run} (record { def = a.def; part = a.part; unserved = a.unserved; told = a.told }) b = rw (h, i, j, k) refl in e)

module _ (def : LineDef) (past : List Entry) (valid : IsValid def) (legal : IsLegalPast def past) where
  device_is : (d : DevNo) → device_of def d ≡ device_at def (state_of def past) d
  device_is d = ap (λ (f : DeviceFacts). record { dev = d; line = def.line; kind = f.kind; held = f.held; forgets = f.forgets }) (sym (facts_are def d))

  run_at_is : (part : Part) (d : DevNo) → has_device def d ≡ true → run_at def part d past ≡ run_there def (state_of def past) part d
  run_at_is part d there =
      same_run (run_at def part d past) (run_there def (state_of def past) part d) (device_is d) refl (sym (met_is def past d there part))
      (sym (told_is def past d there part))

  pub run_is : (step : DueStep) → IsDue def (entry_by def (state_of def past) step) past
      → run_ended def past (entry_by def (state_of def past) step) ≡ run_by def (state_of def past) step
  run_is (steps.Cpu c (cpus.Return d)) due =
      let k = kept def past valid legal in
      let there = there_named def past k d (called_there def past k d (k.runs.working d (return_due def c d _ _ past due).is_at_work).0) in
      ap Some (run_at_is parts.Primary d there)
  run_is (steps.Thread d threads.Return) due =
      let k = kept def past valid legal in
      let there = there_named def past k d (running_there def past k d (thread_return_due def d _ _ past due).running) in
      ap Some (run_at_is parts.Thread d there)
  run_is (steps.Driver r (driver_steps.Request d flags)) due = request_ends_none def past (state_of def past) r d flags
      (answer_by (kind_at (all_facts def) d) flags (actions_of past))
  run_is _ due = refl
