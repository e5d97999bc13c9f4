use Rattle.std.proofs.Common.{◌≡◌, drop}
use Rattle.std.specs.List.{list_all}
use Rattle.irq_pm.specs.SleptBoard.{can_all_wake, can_wake}
use Rattle.irq_pm.proofs.fitting.can_all_wake.Given as goal

abbrev pub invariant-loop-line : goal.invariant-loop-line
invariant-loop-line l = can_all_wake l.board l.armed ≡ list_all (can_wake l.board) (drop l.line-index l.armed)
