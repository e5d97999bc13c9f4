use Rattle.std.proofs.Common.{◌≡◌, drop}
use Rattle.std.specs.List.{list_any}
use Rattle.hotplug_plan.specs.Planned.{moves_a_line}
use Rattle.hotplug_plan.proofs.plan.has_affinity.Given as goal

abbrev pub invariant-loop-i : goal.invariant-loop-i
invariant-loop-i l = list_any moves_a_line l.board.calls ≡ list_any moves_a_line (drop l.i l.board.calls)
