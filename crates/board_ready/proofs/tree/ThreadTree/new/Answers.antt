use Rattle.std.proofs.Common.{refl}
use Rattle.board_ready.proofs.Trees.{fresh_tree, fresh_leaf}
use Rattle.board_ready.proofs.tree.ThreadTree.new.Goals as goal

pub invariant_of-result : goal.invariant_of-result
invariant_of-result c = fresh_tree _ refl

pub returns : goal.returns
returns c = fresh_leaf _ refl
