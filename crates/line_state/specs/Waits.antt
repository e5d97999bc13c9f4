-- What a run waits for, read off the state of the line.
use Rattle.std.specs.Prelude.{ℕ, if◌then◌else◌, Option, Some, None}
use Rattle.irq_base.specs.declared.calls.Call.{Call}
use Rattle.irq_base.specs.declared.devices.Part.{Part}
use Rattle.irq_base.specs.declared.devices.Part.TheVariants as parts
use Rattle.irq_base.specs.declared.lines.LineDef.{LineDef}
use Rattle.irq_base.specs.declared.numbers.DevNo.{DevNo}
use Rattle.irq_base.specs.declared.waiting.WaitFor.{WaitFor}
use Rattle.irq_base.specs.declared.waiting.WaitFor.TheVariants as waits
use Rattle.irq_laws.specs.Blocks.{block_of}
use Rattle.device_table.specs.Rows.{at}
use Rattle.act_thread.specs.declared.rows.Stage.{Stage}
use Rattle.act_thread.specs.declared.rows.Stage.TheVariants as stages
use Rattle.act_thread.specs.declared.rows.ThreadRow.{ThreadRow}
use Rattle.line_marks.specs.Runs.{due_in_run_at}
use Rattle.line_marks.specs.State.{StateSeen}

-- what a due call waits for; a run without one returns next
abbrev pub wait_of_due : Option (Call × ℕ) → WaitFor
wait_of_due None = waits.Nothing
wait_of_due (Some due) = block_of due.0 due.1

abbrev pub wait_in_run : LineDef → StateSeen → Part → DevNo → WaitFor
wait_in_run def s part d = wait_of_due (due_in_run_at def s part d)

-- a run that has returned is finished on a one-shot line once no flow is in progress
abbrev pub wait_at : LineDef → StateSeen → DevNo → Stage → WaitFor
wait_at def s d stages.Begun = wait_in_run def s parts.Thread d
wait_at def s d stages.Returned = if s.desc.oneshot then waits.Flow else waits.Nothing
wait_at def s d _ = waits.Nothing

abbrev pub wait_of_row : LineDef → StateSeen → DevNo → Option ThreadRow → WaitFor
wait_of_row def s d None = waits.Nothing
wait_of_row def s d (Some r) = wait_at def s d r.stage

abbrev pub wait_of_thread : LineDef → StateSeen → DevNo → WaitFor
wait_of_thread def s d = wait_of_row def s d (at s.threads d)

-- the handler of this device is at work
abbrev pub wait_of_handler : LineDef → StateSeen → Option DevNo → WaitFor
wait_of_handler def s None = waits.Nothing
wait_of_handler def s (Some d) = wait_in_run def s parts.Primary d
