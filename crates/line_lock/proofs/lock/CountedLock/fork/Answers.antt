use Rattle.std.proofs.Common.{sym, ap, subst, ◌∙◌}
use Rattle.line_lock.specs.Passes.{IsPass}
use Rattle.line_lock.proofs.Opening.{still_pass}
use Rattle.line_lock.proofs.lock.CountedLock.fork.Goals as goal

pub invariant_of-pass : goal.invariant_of-pass
invariant_of-pass g c =
    subst (λ me. IsPass me c.pass.inside.actor c.pass.inside.front c.pass.inside.held) (sym c.split-seat.ensures.left)
    (still_pass c.pass.inside.seat.me c.pass.inside.actor c.pass.inside.front c.pass.inside.held c.args.actor
    c.pass.invariant (ap (λ p. p.turn) c.pass.view_is ∙ c.requires.idle))
