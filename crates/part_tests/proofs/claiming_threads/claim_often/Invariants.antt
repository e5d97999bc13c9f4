use Rattle.std.proofs.Common.{◌≡◌, false}
use Rattle.vector_matrix.specs.Claims.{IsClaimOf}
use Rattle.part_tests.proofs.claiming_threads.claim_often.Given as goal

abbrev pub invariant-loop : goal.invariant-loop
invariant-loop l = IsClaimOf l.matrix l.claim × (l.claim.first ≡ false)
