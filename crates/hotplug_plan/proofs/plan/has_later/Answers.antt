use Rattle.std.proofs.Common.{◌+◌, ◌||◌, drop, ap, ◌∙◌, sym}
use Rattle.std.specs.List.{list_any}
use Rattle.hotplug_plan.specs.Planned.{moves_later}
use Rattle.hotplug_plan.proofs.plan.has_later.Goals as goal

pub loop-i-preserved : goal.loop-i-preserved
loop-i-preserved c =
    c.loop-i.invariant ∙ ap (list_any moves_later) c.line_at-line.ensures
    ∙ ap (λ t. t || list_any moves_later (drop (c.loop-i.i + 1) c.args.board.now.lines)) (sym c.moves_later.ensures ∙ c.if-moves_later.false)
