use Rattle.std.proofs.Common.{◌≡◌, sym, ap, subst, ◌∙◌}
use Rattle.atomic_table.specs.Seated.{TableId}
use Rattle.vector_matrix.specs.Claims.{ClaimSeen, IsClaim}
use Rattle.vector_matrix.specs.Vectors.{is_in}
use Rattle.vector_matrix.proofs.Claiming.{both_claim, none_shared}
use Rattle.vector_matrix.proofs.matrix.Matrix.meet.Goals as goal

pub invariant_of-claim : goal.invariant_of-claim
invariant_of-claim c =
    let table = λ (m : ClaimSeen). m.table in
    let same : c.other.inside.seat.table_id ≡ c.claim.inside.seat.table_id =
    ap table c.other.view_is ∙ (c.requires.claim.1 ∙ (sym c.requires.claim.0 ∙ sym (ap table c.claim.view_is))) in
    let other : IsClaim c.claim.inside.seat.table_id.words c.other.inside.seat.me
    = subst (λ (t : TableId). IsClaim t.words c.other.inside.seat.me) same c.other.invariant in
    subst (λ (t : TableId). IsClaim t.words c.join.new.seat.me) (sym c.join.ensures.table)
    (both_claim c.claim.inside.seat.table_id.words c.claim.inside.seat.me c.other.inside.seat.me c.join.new.seat.me c.claim.invariant other c.join.ensures.met)

pub returns-clause-apart : goal.returns-clause-apart
returns-clause-apart c = λ p held.
    ap (λ (m : ClaimSeen). is_in p m.holds) (sym c.other.view_is)
    ∙ none_shared c.claim.inside.seat.me.0 c.other.inside.seat.me.0 c.claim.inside.seat.me.1 c.join.new.seat.me
    c.join.ensures.met p (ap (λ (m : ClaimSeen). is_in p m.holds) c.claim.view_is ∙ held)
