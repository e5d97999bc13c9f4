use Rattle.std.proofs.Common.{◌≡◌, [], take}
use Rattle.board_def.specs.LineOf.{line_defs_of, with_parts}
use Rattle.board_def.proofs.line_defs.add_calls.Given as goal

abbrev pub invariant-loop-i : goal.invariant-loop-i
invariant-loop-i l = l.defs.items ≡ line_defs_of (with_parts l.board l.board.devices (take l.i l.board.calls) [] [])
