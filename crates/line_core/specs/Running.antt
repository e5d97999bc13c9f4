-- The run that a step ends, and the run that makes a step's call, read off the state.
use Rattle.std.specs.Prelude.{◌≡◌, Option, Some, None, List}
use Rattle.irq_base.specs.declared.devices.Part.TheVariants as parts
use Rattle.irq_base.specs.declared.devices.Run.{Run}
use Rattle.irq_base.specs.declared.entries.Entry.{Entry}
use Rattle.irq_base.specs.declared.lines.LineDef.{LineDef}
use Rattle.irq_model.specs.Rounds.{at_work}
use Rattle.line_marks.specs.State.{StateSeen}
use Rattle.line_state.specs.Ended.{run_there}
use Rattle.line_state.specs.declared.due.CpuStep.{CpuStep}
use Rattle.line_state.specs.declared.due.CpuStep.TheVariants as cpus
use Rattle.line_state.specs.declared.due.DueStep.{DueStep}
use Rattle.line_state.specs.declared.due.DueStep.TheVariants as steps
use Rattle.line_state.specs.declared.due.ThreadStep.TheVariants as threads

-- the run of a handler that a return ends, or of a thread that its return ends
abbrev pub run_by : LineDef → StateSeen → DueStep → Option Run
run_by def s (steps.Cpu cpu (cpus.Return dev)) = Some (run_there def s parts.Primary dev)
run_by def s (steps.Thread dev threads.Return) = Some (run_there def s parts.Thread dev)
run_by def s _ = None

-- a call's step is one of the handler that is at work
abbrev pub IsOfWork : List Entry → CpuStep → Type 0
IsOfWork past (cpus.Call dev step) = at_work past ≡ Some dev
IsOfWork past _ = Unit {0}
