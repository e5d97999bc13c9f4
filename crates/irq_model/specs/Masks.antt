-- When the line's chip is masked (`mask_irq`, `unmask_irq`, `irq_shutdown` of `kernel/irq/chip.c`).
use Rattle.std.specs.Prelude.{Bool, true, not, ◌||◌, ◌&&◌, List, [], ◌∷◌}
use Rattle.std.specs.List.{list_any}
use Rattle.irq_base.specs.declared.lines.FlowKind.{FlowKind}
use Rattle.irq_base.specs.declared.lines.FlowKind.TheVariants as flows
use Rattle.irq_base.specs.declared.lines.LineDef.{LineDef}
use Rattle.irq_base.specs.declared.entries.Entry.{Entry}
use Rattle.irq_model.specs.Places.{since_place}
use Rattle.irq_model.specs.Kinds.{is_take, is_handle, is_busy, is_off, is_disable, is_kill}
use Rattle.irq_model.specs.Kinds.{is_last_unlink, is_start, is_reopening}
use Rattle.irq_model.specs.Lines.{is_level_line}
use Rattle.irq_model.specs.Links.{is_oneshot}

-- a take that masks. On the level flow: each take. On the edge flow: a take that isn't handled. On
-- the fast-EOI flow: a take answered Off, and on a one-shot level line a take that is handled
abbrev pub take_masks : LineDef → FlowKind → Entry → List Entry → Bool
take_masks def flows.Level e past = is_take e
take_masks def flows.Edge e past = is_busy e || is_off e
take_masks def flows.Eoi e past =
    is_off e || (is_handle e && (is_level_line def && is_oneshot past))

-- the newest entry masks: such a take, a disable or a kill on an unlazy line, a last unlink
abbrev pub masks : LineDef → List Entry → Bool
masks def [] = true
masks def (e ∷ past) = take_masks def def.flow e past
    || ((def.unlazy && (is_disable e || is_kill e)) || is_last_unlink e)

-- a start, or an end or a finish that says `unmask`
abbrev pub unmasks : Entry → Bool
unmasks e = is_start e || is_reopening e

-- no unmasking entry stands after the last masking one; the beginning counts as masking
abbrev pub is_masked : LineDef → List Entry → Bool
is_masked def past = not (list_any unmasks (since_place (masks def) past))
