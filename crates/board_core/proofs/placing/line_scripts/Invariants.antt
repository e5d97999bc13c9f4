use Rattle.std.proofs.Common.{take}
use Rattle.board_core.proofs.OwnScripts.{AreBare}
use Rattle.board_core.proofs.placing.line_scripts.Given as goal

abbrev pub invariant-loop-i : goal.invariant-loop-i
invariant-loop-i l = AreBare l.board.drivers (take l.i l.def.calls) l.own.items
