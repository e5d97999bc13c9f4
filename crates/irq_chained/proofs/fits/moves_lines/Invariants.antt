use Rattle.std.proofs.Common.{◌≡◌, drop}
use Rattle.std.specs.List.{list_any}
use Rattle.irq_chained.specs.Fits.{moves_a_line}
use Rattle.irq_chained.proofs.fits.moves_lines.Given as goal

abbrev pub invariant-loop-call : goal.invariant-loop-call
invariant-loop-call l = list_any moves_a_line l.calls ≡ list_any moves_a_line (drop l.call-index l.calls)
