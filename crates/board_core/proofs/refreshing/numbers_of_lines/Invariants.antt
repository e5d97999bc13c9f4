use Rattle.std.proofs.Common.{◌≡◌, map, take}
use Rattle.board_core.specs.Numbers.{numbers_of_lines}
use Rattle.board_core.proofs.refreshing.numbers_of_lines.Given as goal

abbrev pub invariant-loop-i : goal.invariant-loop-i
invariant-loop-i g l = l.numbers.items ≡ numbers_of_lines (take l.i (map g.L.IrqLine.seen l.lines))
