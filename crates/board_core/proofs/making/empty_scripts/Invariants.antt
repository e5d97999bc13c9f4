use Rattle.board_core.proofs.Cutting.{AreEmpty}
use Rattle.board_core.proofs.making.empty_scripts.Given as goal

abbrev pub invariant-loop-i : goal.invariant-loop-i
invariant-loop-i l = AreEmpty l.board l.i l.scripts.items
