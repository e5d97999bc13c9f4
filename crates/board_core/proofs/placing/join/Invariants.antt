use Rattle.board_core.proofs.Placed.{JoinedTo}
use Rattle.board_core.proofs.placing.join.Given as goal

abbrev pub invariant-loop-j : goal.invariant-loop-j
invariant-loop-j l = JoinedTo l.own l.fn.scripts.items l.j l.scripts.items
