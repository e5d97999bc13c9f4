-- The entry that is due of a processor, read off the state of the line.
use Rattle.std.specs.Prelude.{ℕ, Bool, not, if◌then◌else◌, nat_lt, Option, Some, None, option_map}
use Rattle.irq_base.specs.Cell.{signals}
use Rattle.irq_base.specs.declared.calls.Call.{Call}
use Rattle.irq_base.specs.declared.devices.Part.TheVariants as parts
use Rattle.irq_base.specs.declared.entries.Entry.{Entry}
use Rattle.irq_base.specs.declared.entries.Entry.TheVariants as by
use Rattle.irq_base.specs.declared.entries.CpuEntry.TheVariants as cpus
use Rattle.irq_base.specs.declared.entries.Note.{Note}
use Rattle.irq_base.specs.declared.entries.TakeAnswer.{TakeAnswer}
use Rattle.irq_base.specs.declared.entries.Way.TheVariants as ways
use Rattle.irq_base.specs.declared.lines.LineDef.{LineDef}
use Rattle.irq_base.specs.declared.numbers.CpuNo.{CpuNo}
use Rattle.irq_base.specs.declared.numbers.DevNo.{DevNo}
use Rattle.irq_model.specs.Rounds.{is_cpu}
use Rattle.irq_model.specs.Signal.{lowest_in}
use Rattle.act_list.specs.Actions.{is_bare}
use Rattle.act_list.specs.Lists.{first_left}
use Rattle.act_thread.specs.Threads.{held_in}
use Rattle.spurious.specs.Seen.{noted_at}
use Rattle.flow_handlers.specs.Flows.{answer_by}
use Rattle.flow_handlers.specs.declared.leave_answer.LeaveAnswer.{LeaveAnswer}
use Rattle.line_marks.specs.Acts.{killed_if, left_by}
use Rattle.line_marks.specs.Calls.{step_by}
use Rattle.line_marks.specs.Runs.{answer_at, served_at, due_in_run_at}
use Rattle.line_marks.specs.State.{StateSeen}

-- some thread's bit stands
abbrev pub is_held : StateSeen → Bool
is_held s = nat_lt 0 (held_in s.threads)

-- the handler returns: what it answers, and how many asks it served
abbrev pub return_by : LineDef → StateSeen → CpuNo → DevNo → Entry
return_by def s c d = by.Cpu c
    (cpus.Return (answer_at def s parts.Primary d) d (served_at def s parts.Primary d))

-- the note of the round
abbrev pub note_by : StateSeen → Note
note_by s = (noted_at s.round.moment s.round.wakes s.round.handles s.counts).note

-- the end of the round, by what the flow handler leaves after the note
abbrev pub end_with : CpuNo → Note → LeaveAnswer → Entry
end_with c note left = by.Cpu c (cpus.End left.again left.unmask note)

abbrev pub end_by : LineDef → StateSeen → CpuNo → Entry
end_by def s c =
    end_with c (note_by s) (left_by def def.flow (is_held s) (killed_if (note_by s) s.desc))

abbrev pub begin_or_end_by : LineDef → StateSeen → CpuNo → Option DevNo → Entry
begin_or_end_by def s c None = end_by def s c
begin_or_end_by def s c (Some d) = by.Cpu c (cpus.Begin d)

abbrev pub handler_or_return_by : LineDef → StateSeen → CpuNo → DevNo → Option (Call × ℕ)
    → Option Entry
handler_or_return_by def s c d (Some due) = option_map (by.CpuCall c) (step_by def s due)
handler_or_return_by def s c d None = Some (return_by def s c d)

-- a handler that is at work makes its next call, or returns; else the first handler that is left is
-- called; else the round ends
abbrev pub in_flow_by : LineDef → StateSeen → CpuNo → Option DevNo → Option Entry
in_flow_by def s c (Some d) =
    handler_or_return_by def s c d (due_in_run_at def s parts.Primary d)
in_flow_by def s c None =
    Some (begin_or_end_by def s c (first_left s.list.begun s.list.actions))

-- the answer of a take
abbrev pub take_by : StateSeen → TakeAnswer
take_by s = answer_by (not (is_bare s.list.actions)) s.desc

-- the target takes what the cell presents, or else what the software resends
abbrev pub next_take_by : StateSeen → CpuNo → Option Entry
next_take_by s c =
    if not (is_cpu c (lowest_in s.aim.cpus s.aim.mask)) then None
    else (if signals s.cell then Some (by.Cpu c (cpus.Take ways.Line (take_by s)))
    else (if s.desc.soft then Some (by.Cpu c (cpus.Take ways.Resend (take_by s))) else None))

abbrev pub cpu_due : LineDef → StateSeen → CpuNo → Option Entry
cpu_due def s c =
    if is_cpu c s.desc.flow then in_flow_by def s c s.round.working else next_take_by s c
