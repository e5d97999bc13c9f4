use Rattle.std.proofs.Common.{◌≡◌}
use Rattle.std.specs.List.{list_any}
use Rattle.irq_pm.specs.SleptBoard.{can_wake, wakes_row}
use Rattle.irq_pm.proofs.Fits.{live_from}
use Rattle.irq_pm.proofs.fitting.can_wake.Given as goal

abbrev pub invariant-loop-i : goal.invariant-loop-i
invariant-loop-i l = can_wake l.board l.line ≡ list_any (wakes_row l.line) (live_from l.board l.i)
