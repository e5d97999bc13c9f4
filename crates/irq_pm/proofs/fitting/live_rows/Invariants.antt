use Rattle.std.proofs.Common.{◌≡◌, ◌++◌}
use Rattle.irq_pm.specs.SleptBoard.{live_rows}
use Rattle.irq_pm.proofs.Fits.{live_from}
use Rattle.irq_pm.proofs.fitting.live_rows.Given as goal

abbrev pub invariant-loop-i : goal.invariant-loop-i
invariant-loop-i l = live_rows l.board ≡ l.rows.items ++ live_from l.board l.i
