use Rattle.std.proofs.Common.{map}
use Rattle.board_core.specs.Seen.{board_lines}
use Rattle.board_core.proofs.HungLines.{NobodyBefore}
use Rattle.board_core.proofs.ends.end_of.Given as goal

abbrev pub invariant-loop-line : goal.invariant-loop-line
invariant-loop-line g l = NobodyBefore (board_lines (map g.L.IrqLine.seen l.lines)) l.line-index
