use Rattle.std.proofs.Common.{◌≡◌, drop}
use Rattle.std.specs.List.{list_any}
use Rattle.hotplug_plan.specs.Planned.{moves_later}
use Rattle.hotplug_plan.proofs.plan.has_later.Given as goal

abbrev pub invariant-loop-i : goal.invariant-loop-i
invariant-loop-i l = list_any moves_later l.board.lines ≡ list_any moves_later (drop l.i l.board.lines)
