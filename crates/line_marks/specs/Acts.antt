-- What an entry makes of a line's state, in parts: each is the work of one part of the line.
use Rattle.std.specs.Prelude.{ℕ, ◌-◌, Bool, true, false, not, ◌&&◌, if◌then◌else◌, nat_lt}
use Rattle.irq_base.specs.Cell.{after_high, after_accept, after_mask}
use Rattle.irq_base.specs.declared.calls.Flags.{Flags}
use Rattle.irq_base.specs.declared.entries.LinkAnswer.TheVariants as links
use Rattle.irq_base.specs.declared.entries.Note.{Note}
use Rattle.irq_base.specs.declared.entries.Note.TheVariants as notes
use Rattle.irq_base.specs.declared.entries.Opened.{Opened}
use Rattle.irq_base.specs.declared.entries.Opened.TheVariants as opens
use Rattle.irq_base.specs.declared.entries.TakeAnswer.{TakeAnswer}
use Rattle.irq_base.specs.declared.entries.TakeAnswer.TheVariants as takes
use Rattle.irq_base.specs.declared.entries.Way.{Way}
use Rattle.irq_base.specs.declared.entries.Way.TheVariants as ways
use Rattle.irq_base.specs.declared.lines.FlowKind.{FlowKind}
use Rattle.irq_base.specs.declared.lines.FlowKind.TheVariants as flows
use Rattle.irq_base.specs.declared.lines.LineDef.{LineDef}
use Rattle.irq_base.specs.declared.numbers.CpuNo.{CpuNo}
use Rattle.irq_base.specs.declared.numbers.DevNo.{DevNo}
use Rattle.irq_model.specs.Lines.{is_level_line, is_eoi_flow}
use Rattle.act_list.specs.Lists.{after_link, after_begin_round}
use Rattle.affinity.specs.Seen.{after_move}
use Rattle.spurious.specs.Seen.{after_note, after_reset}
use Rattle.desc_state.specs.Desc.{DescSeen, killed, shut_down, started_up, cell_started, masked_if}
use Rattle.flow_handlers.specs.Flows.{level_desc, level_cell, level_left, level_ended, edge_desc}
use Rattle.flow_handlers.specs.Flows.{edge_cell, edge_left, edge_ended, eoi_desc, eoi_cell}
use Rattle.flow_handlers.specs.Flows.{eoi_left, eoi_ended, eoi_ended_cell, unmasked_if}
use Rattle.flow_handlers.specs.declared.leave_answer.LeaveAnswer.{LeaveAnswer}
use Rattle.line_marks.specs.Aim.{aimed_by}
use Rattle.line_marks.specs.State.{StateSeen, high_in}

-- ---- takes

-- an interrupt that the line presents is accepted; an interrupt that the software resends no longer
-- waits
abbrev pub arrived : Way → StateSeen → StateSeen
arrived ways.Line s = record s { cell = after_accept s.cell }
arrived ways.Resend s = record s { desc = record s.desc { soft = false } }

-- a waiting mask is put in force, and the chip is aimed (`irq_move_masked_irq`,
-- `kernel/irq/migration.c`)
abbrev pub moved : StateSeen → StateSeen
moved s = record s { aim = after_move s.aim; aimed = aimed_by (after_move s.aim) }

-- the flow handler's beginning
abbrev pub entered : LineDef → FlowKind → TakeAnswer → CpuNo → StateSeen → StateSeen
entered def flows.Level answer cpu s =
    record s { desc = level_desc answer cpu s.desc; cell = level_cell s.cell }
entered def flows.Edge answer cpu s =
    record s { desc = edge_desc answer cpu s.desc; cell = edge_cell answer s.cell }
entered def flows.Eoi answer cpu s = record s {
  desc = eoi_desc def.trigger answer cpu s.desc;
  cell = eoi_cell def.trigger s.desc.oneshot answer s.cell;
}

-- a round begins
abbrev pub round_begun : StateSeen → StateSeen
round_begun s = record s {
  round = record s.round { wakes = false; handles = false };
  list = after_begin_round s.list;
}

abbrev pub handling_from : TakeAnswer → StateSeen → StateSeen
handling_from takes.Handle s = round_begun s
handling_from _ s = s

-- ---- runs

-- the level after a run, by how many asks it served
abbrev pub lowered : LineDef → ℕ → StateSeen → StateSeen
lowered def n s = record s {
  cell = if is_level_line def && nat_lt 0 n then after_high (high_in s.asks) s.cell else s.cell;
}

-- ---- ends

-- the note of the round
abbrev pub noted_at : StateSeen → StateSeen
noted_at s = record s { counts = after_note s.round.moment s.round.wakes s.round.handles s.counts }

-- what a note makes of the descriptor
abbrev pub killed_if : Note → DescSeen → DescSeen
killed_if notes.Killed d = killed d
killed_if _ d = d

abbrev pub killed_by : Note → StateSeen → StateSeen
killed_by notes.Killed s = record s { desc = killed s.desc; cell = masked_if s.desc.unlazy s.cell }
killed_by _ s = s

-- the flow handler's end: what it does, and what it makes of the descriptor and of the cell.
-- `held`: some thread's bit stands
abbrev pub left_by : LineDef → FlowKind → Bool → DescSeen → LeaveAnswer
left_by def flows.Level held d = level_left held d
left_by def flows.Edge held d = edge_left d
left_by def flows.Eoi held d = eoi_left def.trigger held d

abbrev pub left_at : LineDef → FlowKind → Bool → StateSeen → StateSeen
left_at def flows.Level held s = record s {
  desc = level_ended held s.desc;
  cell = unmasked_if (level_left held s.desc).unmask s.cell;
}
left_at def flows.Edge held s =
    record s { desc = edge_ended s.desc; cell = unmasked_if (edge_left s.desc).unmask s.cell }
left_at def flows.Eoi held s =
    record s {
      desc = eoi_ended (eoi_left def.trigger held s.desc) s.desc;
      cell = eoi_ended_cell (eoi_left def.trigger held s.desc) s.cell;
    }

-- a flow that goes on begins a new round; on the fast-EOI flow each end is the flow's last
abbrev pub gone_on : LineDef → Bool → StateSeen → StateSeen
gone_on def again s = if again && not (is_eoi_flow def.flow) then round_begun s else s

-- ---- requests and frees

-- the action is linked: its list, what the descriptor takes over, and the window of the rule begins
-- anew
abbrev pub linked_at : DevNo → Flags → StateSeen → StateSeen
linked_at d flags s = record s {
  list = after_link links.Linked d flags s.list;
  desc = record s.desc { oneshot = flags.oneshot; spurious = false };
  counts = after_reset s.counts;
}

-- a first request activates the domains
abbrev pub activated_if : Bool → StateSeen → StateSeen
activated_if first s = if first then record s { active = true } else s

abbrev pub disabled_if : Bool → StateSeen → StateSeen
disabled_if first s = if first then record s { desc = record s.desc { depth = 1 } } else s

-- what the request makes of the depth
abbrev pub opened_to : Bool → Opened → StateSeen → StateSeen
opened_to first (opens.Started resend) s =
    record s { desc = started_up resend s.desc; cell = cell_started resend s.cell }
opened_to first opens.Lowered s = record s { desc = record s.desc { depth = s.desc.depth - 1 } }
opened_to first opens.No s = disabled_if first s
opened_to first opens.Unbalanced s = s

-- the last unlink shuts the line down
abbrev pub shut_if : Bool → StateSeen → StateSeen
shut_if last s = if last then record s { desc = shut_down s.desc; cell = after_mask s.cell } else s
