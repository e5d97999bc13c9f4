use Rattle.std.proofs.Common.{◌≡◌, ◌≤◌, List, [], ◌++◌, drop, filter, length, sym, ap, ◌∙◌, arith}
use Rattle.std.proofs.Math.ListN.{drop_of_length-le}
use Rattle.std.proofs.lemmas.List.{append-nil}
use Rattle.irq_base.specs.declared.entries.Actor.{Actor}
use Rattle.plain_next.specs.Hanging.{all_in_way, stands_in, want_of}
use Rattle.plain_next.proofs.InWay.{kept_stand}
use Rattle.plain_next.proofs.hanging.standing_in.Goals as goal

pub returns : goal.returns
returns c =
    let def = c.args.def.now in
    let past = c.args.past.now in
    let want = want_of c.args.want in
    let all = all_in_way def past in
    let end : length all ≤ c.loop-actor.actor-index =
    omega (arith, c.loop-actor-test.false, ap length c.as_slice-actor-items.ensures.value, ap length c.in_ok-all.ensures) in
    let none : drop c.loop-actor.actor-index all ≡ [] = drop_of_length-le all end in
    kept_stand def past want c.loop-actor.found.items
    (sym (c.loop-actor.invariant ∙ (ap (λ (xs : List Actor). c.loop-actor.found.items ++ filter (stands_in def past want) xs) none
    ∙ append-nil c.loop-actor.found.items)))
