use Rattle.std.proofs.Common.{not, Some, sym, ap, ◌∙◌, arith}
use Rattle.line_core.proofs.InWay.{lowest_more, lowest_same}
use Rattle.line_core.specs.InWay.{busy_in}
use Rattle.line_core.proofs.obstacles.lowest_at_work.Goals as goal

pub loop-place-preserved-then-not-is_at_rest : goal.loop-place-preserved-then-not-is_at_rest
loop-place-preserved-then-not-is_at_rest g c =
    let within = c.loop-place.invariant.0 in
    let busy = ap not (sym c.is_at_rest.ensures ∙ c.if-not-is_at_rest.true) in (
      omega (arith, within),
      ap (λ d. Some d) c.lower.ensures
          ∙ lowest_more (busy_in c.args.state.now.state) c.args.devices.now c.loop-place.place c.in-Some.device
          (omega (arith, c.loop-place-test.true)) (sym c.get.ensures ∙ c.in-Some.is) c.loop-place.lowest c.loop-place.invariant.1 busy,
    )

pub loop-place-preserved : goal.loop-place-preserved
loop-place-preserved g c =
    let within = c.loop-place.invariant.0 in
    let rests = ap not (sym c.is_at_rest.ensures ∙ c.if-not-is_at_rest.false) in (
      omega (arith, within),
      lowest_same (busy_in c.args.state.now.state) c.args.devices.now c.loop-place.place c.in-Some.device
          (omega (arith, c.loop-place-test.true)) (sym c.get.ensures ∙ c.in-Some.is) c.loop-place.lowest c.loop-place.invariant.1 rests,
    )
