use Rattle.std.proofs.Common.{◌≡◌, map}
use Rattle.board_core.specs.Seen.{board_lines}
use Rattle.board_core.proofs.NewLines.{first_lines}
use Rattle.board_core.proofs.making.make_lines.Given as goal

abbrev pub invariant-loop-i : goal.invariant-loop-i
invariant-loop-i g l = board_lines (map g.L.IrqLine.seen l.lines.items) ≡ first_lines l.board l.i
