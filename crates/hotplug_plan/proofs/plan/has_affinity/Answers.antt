use Rattle.std.proofs.Common.{◌+◌, ◌||◌, drop, ap, ◌∙◌, sym}
use Rattle.std.specs.List.{list_any}
use Rattle.hotplug_plan.specs.Planned.{moves_a_line}
use Rattle.hotplug_plan.proofs.plan.has_affinity.Goals as goal

pub loop-i-preserved : goal.loop-i-preserved
loop-i-preserved c =
    c.loop-i.invariant ∙ ap (list_any moves_a_line) c.call_at-call.ensures
    ∙ ap (λ t. t || list_any moves_a_line (drop (c.loop-i.i + 1) c.args.board.now.calls)) (sym c.moves_a_line.ensures ∙ c.if-moves_a_line.false)
