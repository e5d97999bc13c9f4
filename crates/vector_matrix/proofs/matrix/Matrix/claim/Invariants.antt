use Rattle.vector_matrix.specs.Claims.{PassedBy}
use Rattle.vector_matrix.proofs.matrix.Matrix.claim.Given as goal

abbrev pub invariant-loop-number : goal.invariant-loop-number
invariant-loop-number l = PassedBy l.number l.cpu l.fn.claim l.claim
