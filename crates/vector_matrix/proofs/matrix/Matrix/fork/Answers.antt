use Rattle.std.proofs.Common.{sym, subst}
use Rattle.atomic_table.specs.Seated.{TableId}
use Rattle.vector_matrix.specs.Claims.{IsClaim}
use Rattle.vector_matrix.proofs.Claiming.{left_claim}
use Rattle.vector_matrix.proofs.matrix.Matrix.fork.Goals as goal

pub invariant_of-claim : goal.invariant_of-claim
invariant_of-claim c =
    subst (λ (t : TableId). IsClaim t.words c.split-seat.new.seat.me) (sym c.split-seat.ensures.table.0)
    (subst (IsClaim c.claim.inside.seat.table_id.words) (sym c.split-seat.ensures.left)
    (left_claim c.claim.inside.seat.table_id.words c.claim.inside.seat.me c.claim.invariant))
