use Rattle.std.proofs.Common.{◌≡◌, true, subst, ap, ◌∙◌}
use Rattle.vector_matrix.specs.Claims.{ClaimSeen}
use Rattle.vector_matrix.specs.Vectors.{is_in, IsEachOnce}
use Rattle.vector_matrix.specs.declared.view.Vector.{Vector}
use Rattle.vector_matrix.proofs.claim.Claim.is_known.Goals as goal

pub returns-clause-once : goal.returns-clause-once
returns-clause-once c = subst (λ (m : ClaimSeen). IsEachOnce m.holds) c.self.view_is c.self.invariant.once

pub returns-clause-met : goal.returns-clause-met
returns-clause-met c =
    let first = ap (λ (m : ClaimSeen). m.first) c.self.view_is in
    let out = ap (λ (m : ClaimSeen). m.out) c.self.view_is in
    λ is.
    subst (λ (m : ClaimSeen). (p : Vector) → is_in p m.met ≡ true → is_in p m.holds ≡ true) c.self.view_is (c.self.invariant.whole (first ∙ is.0) (out ∙ is.1))
