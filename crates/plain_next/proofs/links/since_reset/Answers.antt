use Rattle.std.proofs.Common.{◌≡◌, drop, ap, ◌∙◌, arith}
use Rattle.irq_model.proofs.Lists.{since_from_upto}
use Rattle.irq_model.specs.Links.{is_reset}
use Rattle.irq_model.specs.Places.{upto_place}
use Rattle.plain_next.proofs.links.since_reset.Goals as goal

pub returns-clause-since : goal.returns-clause-since
returns-clause-since c =
    let past = c.args.past.now in
    let all : 0 ≡ c.loop-i.i = omega (arith, c.loop-i-test.false) in
    since_from_upto is_reset past c.loop-i.place (ap (λ i. upto_place is_reset (drop i past)) all ∙ c.loop-i.invariant.upto)
