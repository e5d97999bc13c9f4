use Rattle.std.proofs.Common.{sym, ap, arith}
use Rattle.std.proofs.lemmas.Grind.{common_steps}
use Rattle.irq_model.specs.Signal.{puts_in_force, mask_of}
use Rattle.plain_next.proofs.Somewhere.{last_at, last_nowhere}
use Rattle.plain_next.proofs.signal.mask_in_force.Goals as goal

pub returns-then-puts_in_force : goal.returns-then-puts_in_force
returns-then-puts_in_force c =
    let last = last_at puts_in_force c.args.past.now c.loop-i.i c.loop-i-test.true (grind (arith, common_steps)) c.loop-i.invariant in
    let e = ap (mask_of c.args.def.now.mask) last in grind (arith, common_steps, e)

pub returns : goal.returns
returns c = sym (ap (mask_of c.args.def.now.mask) (last_nowhere puts_in_force c.args.past.now (λ i h. c.loop-i.invariant i (omega arith))))
