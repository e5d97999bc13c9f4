use Rattle.board_ready.proofs.Trees.{IsUpTo}
use Rattle.board_ready.proofs.tree.ThreadTree.put.Given as goal

abbrev pub invariant-loop-node : goal.invariant-loop-node
invariant-loop-node l = IsUpTo l.self-inside.nodes l.fn.self l.line l.node l.fn.thread

abbrev pub decreases-loop-node : goal.decreases-loop-node
decreases-loop-node l = l.node
