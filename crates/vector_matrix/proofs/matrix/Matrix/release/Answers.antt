use Rattle.std.proofs.Common.{sym, subst}
use Rattle.atomic_table.specs.Seated.{TableId}
use Rattle.vector_matrix.specs.Claims.{IsClaim}
use Rattle.vector_matrix.specs.Vectors.{vector_of}
use Rattle.vector_matrix.proofs.Claiming.{freed_claim}
use Rattle.vector_matrix.proofs.matrix.Matrix.release.Goals as goal

pub invariant_of-claim : goal.invariant_of-claim
invariant_of-claim c =
    subst (λ (t : TableId). IsClaim t.words c.clear.new.seat.me) (sym c.clear.ensures.table)
    (subst (IsClaim c.claim.inside.seat.table_id.words) (sym c.clear.ensures.frees)
    (freed_claim c.claim.inside.seat.table_id.words c.claim.inside.seat.me (vector_of c.args.cpu c.args.vector)
    c.claim.invariant))
