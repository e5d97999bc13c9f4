-- The flow handlers: what a take and an end make of a line's descriptor and of its signal cell.
use Rattle.std.specs.Prelude.{Bool, true, false, not, ◌||◌, ◌&&◌, if◌then◌else◌, is_some, Some}
use Rattle.std.specs.Prelude.{None}
use Rattle.irq_base.specs.Cell.{Cell, is_edge_trigger, after_ack, after_mask, after_unmask}
use Rattle.irq_base.specs.Cell.{after_eoi, after_retrigger}
use Rattle.irq_base.specs.declared.entries.TakeAnswer.{TakeAnswer}
use Rattle.irq_base.specs.declared.entries.TakeAnswer.TheVariants as takes
use Rattle.irq_base.specs.declared.lines.Trigger.{Trigger}
use Rattle.irq_base.specs.declared.numbers.CpuNo.{CpuNo}
use Rattle.desc_state.specs.Desc.{DescSeen, is_disabled}
use Rattle.flow_handlers.specs.declared.leave_answer.LeaveAnswer.{LeaveAnswer}

-- ---- all flows

-- what a take answers: a flow is in progress already (`irq_may_run`), or the line is disabled or
-- has no action, or the handlers are to run
abbrev pub answer_by : Bool → DescSeen → TakeAnswer
answer_by linked d =
    if is_some d.flow then takes.Busy
    else (if is_disabled d || not linked then takes.Off else takes.Handle)

-- the handlers are to run (`handle_irq_event`, `kernel/irq/handle.c`)
abbrev pub handling : CpuNo → DescSeen → DescSeen
handling cpu d = record d { pending = false; flow = Some cpu }

abbrev pub unmasked_if : Bool → Cell → Cell
unmasked_if b c = if b then after_unmask c else c

abbrev pub retriggered_if : Bool → Cell → Cell
retriggered_if b c = if b then after_retrigger c else c

-- the end may open the line: no disable stands, the mask is closed, and no thread holds it
-- (`cond_unmask_irq`)
abbrev pub may_open : Bool → DescSeen → Bool
may_open held d = not (is_disabled d) && (d.masked && not held)

-- what came meanwhile is handled too: it is pending, and no disable stands
abbrev pub goes_on : DescSeen → Bool
goes_on d = d.pending && not (is_disabled d)

-- ---- `handle_level_irq`

-- each take masks
abbrev pub level_desc : TakeAnswer → CpuNo → DescSeen → DescSeen
level_desc takes.Handle cpu d = handling cpu (record d { masked = true })
level_desc takes.Busy cpu d = record d { masked = true }
level_desc takes.Off cpu d = record d { masked = true; pending = true }

abbrev pub level_cell : Cell → Cell
level_cell c = after_ack (after_mask c)

-- the end opens the line if it may
abbrev pub level_left : Bool → DescSeen → LeaveAnswer
level_left held d = record { again = false; unmask = may_open held d }

abbrev pub level_ended : Bool → DescSeen → DescSeen
level_ended held d = record d { masked = d.masked && not (may_open held d); flow = None }

-- ---- `handle_edge_irq`

-- what can't be handled now is pending and masks
abbrev pub edge_desc : TakeAnswer → CpuNo → DescSeen → DescSeen
edge_desc takes.Handle cpu d = handling cpu d
edge_desc takes.Busy cpu d = record d { masked = true; pending = true }
edge_desc takes.Off cpu d = record d { masked = true; pending = true }

abbrev pub edge_cell : TakeAnswer → Cell → Cell
edge_cell takes.Handle c = after_ack c
edge_cell takes.Busy c = after_mask (after_ack c)
edge_cell takes.Off c = after_mask (after_ack c)

-- the end goes on with what is pending, and then opens the line, whatever threads hold it
abbrev pub edge_left : DescSeen → LeaveAnswer
edge_left d = record { again = goes_on d; unmask = goes_on d && d.masked }

abbrev pub edge_ended : DescSeen → DescSeen
edge_ended d =
    if goes_on d then record d { pending = false; masked = false } else record d { flow = None }

-- ---- `handle_fasteoi_irq` (what it does with edges is ours)

-- on an edge line what can't be handled now is pending; on a level line it shows by itself, and a
-- one-shot line stays masked while its handlers run
abbrev pub eoi_desc : Trigger → TakeAnswer → CpuNo → DescSeen → DescSeen
eoi_desc trigger takes.Handle cpu d =
    handling cpu (record d { masked = d.masked || (not (is_edge_trigger trigger) && d.oneshot) })
eoi_desc trigger takes.Busy cpu d = record d { pending = d.pending || is_edge_trigger trigger }
eoi_desc trigger takes.Off cpu d = record d { masked = true; pending = true }

abbrev pub eoi_edge_cell : TakeAnswer → Cell → Cell
eoi_edge_cell takes.Handle c = after_ack c
eoi_edge_cell takes.Busy c = after_eoi (after_ack c)
eoi_edge_cell takes.Off c = after_eoi (after_mask (after_ack c))

abbrev pub eoi_level_cell : Bool → TakeAnswer → Cell → Cell
eoi_level_cell oneshot takes.Handle c = if oneshot then after_mask c else c
eoi_level_cell oneshot takes.Busy c = after_eoi c
eoi_level_cell oneshot takes.Off c = after_eoi (after_mask c)

abbrev pub eoi_cell : Trigger → Bool → TakeAnswer → Cell → Cell
eoi_cell trigger oneshot answer c =
    if is_edge_trigger trigger then eoi_edge_cell answer c else eoi_level_cell oneshot answer c

-- the end has an edge line's chip send again what is pending, and opens a one-shot level line if it
-- may
abbrev pub eoi_left : Trigger → Bool → DescSeen → LeaveAnswer
eoi_left trigger held d =
    if is_edge_trigger trigger then record { again = goes_on d; unmask = false }
    else record { again = false; unmask = d.oneshot && may_open held d }

abbrev pub eoi_ended : LeaveAnswer → DescSeen → DescSeen
eoi_ended left d = record d {
  masked = d.masked && not left.unmask;
  pending = d.pending && not left.again;
  flow = None;
}

abbrev pub eoi_ended_cell : LeaveAnswer → Cell → Cell
eoi_ended_cell left c = retriggered_if left.again (unmasked_if left.unmask (after_eoi c))
