use Rattle.std.proofs.Common.{◌≡◌, Some, ap, ◌∙◌, arith}
use Rattle.irq_model.specs.Signal.{lowest_in}
use Rattle.affinity.specs.Seen.{AimSeen}
use Rattle.affinity.proofs.Lowest.{target_is}
use Rattle.affinity.proofs.aim.Aim.target.Goals as goal

pub returns : goal.returns
returns c = target_is c.self.inside.cpus c.self.inside.mask (omega arith) c.self.invariant.few c.self.invariant.some
    ∙ ap (λ (a : AimSeen). lowest_in a.cpus a.mask) c.self.view_is
