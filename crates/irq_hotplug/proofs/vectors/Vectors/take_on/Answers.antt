use Rattle.std.proofs.Common.{ap, ◌∙◌, sym, arith}
use Rattle.vector_matrix.specs.Vectors.{is_in}
use Rattle.irq_hotplug.specs.Placing.{lowest_free}
use Rattle.irq_hotplug.specs.Held.{HeldSeen, held_in}
use Rattle.irq_hotplug.proofs.Lowest.{none_free, lowest_is}
use Rattle.irq_hotplug.proofs.vectors.Vectors.take_on.Goals as goal
use Rattle.irq_hotplug.proofs.vectors.Vectors.take_on.Goals.{in-Got, in-Full}

pub returns-clause-found : goal.returns-clause-found
returns-clause-found c =
    let seen = λ (h : HeldSeen). lowest_free (held_in h) c.args.cpu.0 h.vectors in
    elim c.match-claim.branch [
      | in-Got w ↦
          w.result-is
          ∙ sym (lowest_is (λ v. is_in v c.self.inside.claim.holds) c.args.cpu.0 w.in-Got.number c.self.inside.vectors
          (omega (arith, w.in-Got.ensures.got.0, c.self.invariant.vectors_is))
          (λ u below. w.in-Got.ensures.whole c.self.invariant.whole u below)
          w.in-Got.ensures.got.1)
          ∙ ap seen c.self.view_is
      | in-Full w ↦
          w.result-is
          ∙ sym (none_free (λ v. is_in v c.self.inside.claim.holds) c.args.cpu.0 c.self.inside.vectors
          (λ u below. w.in-Full.ensures.whole c.self.invariant.whole u (omega (arith, below, c.self.invariant.vectors_is))))
          ∙ ap seen c.self.view_is
    ]
