use Rattle.std.proofs.Common.{◌≡◌, [], map, take}
use Rattle.board_def.specs.LineOf.{line_of_row, with_parts}
use Rattle.board_def.proofs.line_defs.bare_defs.Given as goal

abbrev pub invariant-loop-i : goal.invariant-loop-i
invariant-loop-i l = l.defs.items ≡ map (line_of_row (with_parts l.board [] [] [] [])) (take l.i l.board.lines)
