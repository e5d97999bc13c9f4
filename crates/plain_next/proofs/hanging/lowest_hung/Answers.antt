use Rattle.std.proofs.Common.{◌≡◌, ◌≤◌, List, length, take, ap, subst, ◌∙◌, arith}
use Rattle.std.proofs.lemmas.List.{take_all}
use Rattle.irq_base.specs.declared.entries.Actor.{Actor}
use Rattle.plain_next.specs.Hanging.{all_in_way}
use Rattle.plain_next.proofs.LowestHung.{IsLowestOf, lowest_is, next_seen}
use Rattle.plain_next.proofs.hanging.lowest_hung.Goals as goal

pub loop-actor-preserved : goal.loop-actor-preserved
loop-actor-preserved c =
    let items = c.as_slice-actor-items.result.now in
    let same : items ≡ all_in_way c.args.def.now c.args.past.now = c.as_slice-actor-items.ensures.value ∙ c.in_ok-all.ensures in
    next_seen c.args.def.now c.args.past.now items c.loop-actor.actor-index _ c.loop-actor.lowest c.lower_of-lowest.result c.in_ok-hung.hung
    same c.loop-actor-test.true c.loop-actor.invariant c.in_ok-hung.ensures c.lower_of-lowest.ensures

pub returns : goal.returns
returns c =
    let def = c.args.def.now in
    let past = c.args.past.now in
    let all = all_in_way def past in
    let end : length all ≤ c.loop-actor.actor-index =
    omega (arith, c.loop-actor-test.false, ap length c.as_slice-actor-items.ensures.value, ap length c.in_ok-all.ensures) in
    lowest_is def past c.loop-actor.lowest
    (subst (λ (xs : List Actor). IsLowestOf def past xs c.loop-actor.lowest) (take_all c.loop-actor.actor-index all end) c.loop-actor.invariant)
