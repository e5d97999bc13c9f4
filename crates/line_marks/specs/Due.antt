-- The entry that is due of a thread, read off the state of the line.
use Rattle.std.specs.Prelude.{ℕ, ◌-◌, Bool, not, ◌&&◌, if◌then◌else◌, nat_lt, is_some, Option}
use Rattle.std.specs.Prelude.{Some, None, option_map}
use Rattle.irq_base.specs.declared.calls.Call.{Call}
use Rattle.irq_base.specs.declared.devices.Part.TheVariants as parts
use Rattle.irq_base.specs.declared.entries.Entry.{Entry}
use Rattle.irq_base.specs.declared.entries.Entry.TheVariants as by
use Rattle.irq_base.specs.declared.entries.ThreadEntry.TheVariants as threads
use Rattle.irq_base.specs.declared.lines.LineDef.{LineDef}
use Rattle.irq_base.specs.declared.numbers.DevNo.{DevNo}
use Rattle.irq_model.specs.Kinds.{is_handled}
use Rattle.device_table.specs.Rows.{at}
use Rattle.device_table.specs.Sums.{one_if}
use Rattle.act_thread.specs.Threads.{held_in}
use Rattle.act_thread.specs.declared.rows.Stage.{Stage}
use Rattle.act_thread.specs.declared.rows.Stage.TheVariants as stages
use Rattle.act_thread.specs.declared.rows.ThreadRow.{ThreadRow}
use Rattle.flow_handlers.specs.Flows.{may_open}
use Rattle.line_marks.specs.Calls.{step_by}
use Rattle.line_marks.specs.Runs.{answer_at, served_at, due_in_run_at}
use Rattle.line_marks.specs.State.{StateSeen}

-- the bit of some other thread stands
abbrev pub others_held : StateSeen → ThreadRow → Bool
others_held s r = nat_lt 0 (held_in s.threads - one_if r.held)

-- a finish opens the line, unless its thread is to run again
abbrev pub finish_opens : StateSeen → ThreadRow → Bool
finish_opens s r = not r.woken && may_open (others_held s r) s.desc

-- the thread's handler returns: what it answers, and how many asks it served
abbrev pub thread_return_by : LineDef → StateSeen → DevNo → Entry
thread_return_by def s d = by.Thread d
    (threads.Return (is_handled (answer_at def s parts.Thread d)) (served_at def s parts.Thread d))

-- a run that has calls left makes the next one; else it returns
abbrev pub call_or_return_by : LineDef → StateSeen → DevNo → Option (Call × ℕ) → Option Entry
call_or_return_by def s d (Some due) = option_map (by.ThreadCall d) (step_by def s due)
call_or_return_by def s d None = Some (thread_return_by def s d)

-- on a one-shot line the run is finalized, once no flow is in progress
abbrev pub after_return : StateSeen → DevNo → ThreadRow → Option Entry
after_return s d r =
    if s.desc.oneshot
    then (if is_some s.desc.flow then None
    else Some (by.Thread d (threads.Finish r.woken (finish_opens s r))))
    else Some (by.Thread d threads.Done)

abbrev pub due_at_stage : LineDef → Stage → StateSeen → DevNo → ThreadRow → Option Entry
due_at_stage def stages.Idle s d r = if r.woken then Some (by.Thread d threads.Begin) else None
due_at_stage def stages.Begun s d r =
    call_or_return_by def s d (due_in_run_at def s parts.Thread d)
due_at_stage def stages.Returned s d r = after_return s d r
due_at_stage def stages.Finished s d r = Some (by.Thread d threads.Done)

abbrev pub due_of_row : LineDef → StateSeen → DevNo → Option ThreadRow → Option Entry
due_of_row def s d None = None
due_of_row def s d (Some r) = due_at_stage def r.stage s d r

abbrev pub thread_due : LineDef → StateSeen → DevNo → Option Entry
thread_due def s d = due_of_row def s d (at s.threads d)
