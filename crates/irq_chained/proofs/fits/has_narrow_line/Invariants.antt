use Rattle.std.proofs.Common.{◌≡◌, drop}
use Rattle.std.specs.List.{list_any}
use Rattle.irq_chained.specs.Fits.{leaves_out}
use Rattle.irq_chained.proofs.fits.has_narrow_line.Given as goal

abbrev pub invariant-loop-i : goal.invariant-loop-i
invariant-loop-i l = list_any (leaves_out l.board.cpus) l.board.lines ≡ list_any (leaves_out l.board.cpus) (drop l.i l.board.lines)
