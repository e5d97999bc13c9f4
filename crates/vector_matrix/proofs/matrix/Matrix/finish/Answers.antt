use Rattle.std.proofs.Common.{ap, ◌∙◌}
use Rattle.vector_matrix.specs.Claims.{ClaimSeen}
use Rattle.vector_matrix.specs.Steps.{has}
use Rattle.vector_matrix.specs.Vectors.{vector_of, is_in}
use Rattle.vector_matrix.proofs.Stepping.{ended}
use Rattle.vector_matrix.proofs.matrix.Matrix.finish.Goals as goal

pub returns : goal.returns
returns c = λ cpu v few small.
    ap (λ w. has w v) (c.words_of-words.ensures cpu.0 few)
    ∙ (ended c.self.inside.table.shared.key c.claim.inside.seat.id c.claim.inside.seat.me.0 _ _ c.claim.invariant.there
    (ap (λ (m : ClaimSeen). m.first) c.claim.view_is ∙ c.requires.whole.0)
    (ap (λ (m : ClaimSeen). m.out) c.claim.view_is ∙ c.requires.whole.1) c.close_with-closed.ensures.values.2 cpu v
    ∙ ap (λ (m : ClaimSeen). is_in (vector_of cpu v) m.holds) c.claim.view_is)
