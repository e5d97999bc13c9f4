use Rattle.std.proofs.Common.{map}
use Rattle.board_core.proofs.Placed.{LengthsTo}
use Rattle.board_core.proofs.moves.lengths_of.Given as goal

abbrev pub invariant-loop-k : goal.invariant-loop-k
invariant-loop-k g l = LengthsTo (map g.L.IrqLine.seen l.lines) l.k l.lengths
