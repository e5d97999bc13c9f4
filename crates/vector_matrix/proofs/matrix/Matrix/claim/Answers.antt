use Rattle.std.proofs.Common.{◌≡◌, ◌<◌, [], ◌∷◌, ap, arith}
use Rattle.vector_matrix.specs.Claims.{MatrixSeen}
use Rattle.vector_matrix.specs.Vectors.{vector_of}
use Rattle.vector_matrix.proofs.Claiming.{known_after, got_after, full_after}
use Rattle.vector_matrix.proofs.matrix.Matrix.claim.Goals as goal

pub returns-then-claim_one-clause-passed : goal.returns-then-claim_one-clause-passed
returns-then-claim_one-clause-passed c =
    known_after c.loop-number.number c.args.cpu c.args.claim.now c.claim_one.new.claim (vector_of c.args.cpu c.loop-number.number ∷ [])
    (got_after c.loop-number.number c.args.cpu c.args.claim.now c.loop-number.claim c.claim_one.new.claim c.loop-number.invariant c.if-claim_one.ensures)

pub returns-clause-passed : goal.returns-clause-passed
returns-clause-passed c = λ u less.
    let vectors : c.self.inside.vectors ≡ c.args.self.now.vectors = ap (λ (m : MatrixSeen). m.vectors) c.self.view_is in
    let few : u < c.loop-number.number = omega (arith, vectors, less) in
    known_after c.loop-number.number c.args.cpu c.args.claim.now c.loop-number.claim []
    (full_after c.loop-number.number c.args.cpu c.args.claim.now c.loop-number.claim c.loop-number.invariant) u few
