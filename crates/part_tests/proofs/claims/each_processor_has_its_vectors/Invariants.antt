use Rattle.vector_matrix.specs.Claims.{IsClaimOf}
use Rattle.part_tests.proofs.claims.each_processor_has_its_vectors.Given as goal

abbrev pub invariant-loop-number : goal.invariant-loop-number
invariant-loop-number g l = IsClaimOf l.matrix l.claim
