-- The state of a line's descriptor, read off its past, and what an entry makes of each part of it.
use Rattle.std.specs.Prelude.{ℕ, ◌+◌, ◌-◌, Bool, not, ◌||◌, ◌&&◌, if◌then◌else◌, Some, List}
use Rattle.irq_base.specs.declared.entries.Entry.{Entry}
use Rattle.irq_base.specs.declared.lines.FlowKind.{FlowKind}
use Rattle.irq_base.specs.declared.lines.FlowKind.TheVariants as flows
use Rattle.irq_base.specs.declared.lines.LineDef.{LineDef}
use Rattle.irq_model.specs.Kinds.{is_take, is_busy, is_off, is_handle, is_leave, is_again}
use Rattle.irq_model.specs.Kinds.{is_disable, is_kill, is_last_unlink, is_start}
use Rattle.irq_model.specs.Kinds.{is_linked_request, is_soft_start, is_resend_take}
use Rattle.irq_model.specs.Lines.{is_edge_line, is_level_line, is_eoi_flow}
use Rattle.irq_model.specs.Links.{depth, is_started, is_oneshot, has_spurious_mark, flags_in}
use Rattle.irq_model.specs.Links.{is_deepening, is_lowering}
use Rattle.irq_model.specs.Masks.{is_masked, unmasks}
use Rattle.irq_model.specs.Rounds.{flow, cpu_of_handle}
use Rattle.desc_state.specs.Desc.{DescSeen}
use Rattle.irq_model.specs.Waiting.{is_pending, is_soft, clears_pending}

-- each part of the descriptor by its definition
abbrev pub desc_of : LineDef → List Entry → DescSeen
desc_of def past = record {
  unlazy = def.unlazy;
  depth = depth past;
  started = is_started past;
  masked = is_masked def past;
  pending = is_pending def past;
  oneshot = is_oneshot past;
  spurious = has_spurious_mark past;
  soft = is_soft past;
  flow = flow def past;
}

-- the take masks, given whether the line is one-shot
abbrev pub take_masks_with : LineDef → FlowKind → Bool → Entry → Bool
take_masks_with def flows.Level oneshot e = is_take e
take_masks_with def flows.Edge oneshot e = is_busy e || is_off e
take_masks_with def flows.Eoi oneshot e =
    is_off e || (is_handle e && (is_level_line def && oneshot))

-- the entry masks: a take that masks, a disable or a kill of an unlazy line, a last unlink
abbrev pub masks_with : LineDef → DescSeen → Entry → Bool
masks_with def d e = take_masks_with def def.flow d.oneshot e
    || (((is_disable e || is_kill e) && d.unlazy) || is_last_unlink e)

-- the depth after the entry; `first`: nothing was linked before it
abbrev pub depth_after : Bool → Entry → ℕ → ℕ
depth_after first e n =
    if is_last_unlink e || (is_linked_request e && first) then (if is_start e then 0 else 1)
    else (if is_deepening e then n + 1 else (if is_lowering e then n - 1 else n))

-- what an entry makes of the descriptor; `first`: nothing was linked before it
abbrev pub desc_after : LineDef → Bool → Entry → DescSeen → DescSeen
desc_after def first e d = record {
  unlazy = d.unlazy;
  depth = depth_after first e d.depth;
  started = is_start e || (not (is_last_unlink e) && d.started);
  masked = masks_with def d e || (not (unmasks e) && d.masked);
  pending = (is_off e || (is_busy e && is_edge_line def)) || (not (clears_pending e) && d.pending);
  oneshot = if is_linked_request e then (flags_in (Some e)).oneshot else d.oneshot;
  spurious = is_kill e || (not (is_linked_request e) && d.spurious);
  soft = is_soft_start e || (not (is_resend_take e) && d.soft);
  flow =
      if is_handle e || (is_leave e || (is_again e && is_eoi_flow def.flow))
      then cpu_of_handle (Some e) else d.flow;
}
