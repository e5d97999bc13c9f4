use Rattle.std.proofs.Common.{◌≡◌, ◌<◌, ◌≤◌, length, ap, ◌∙◌, arith}
use Rattle.plain_next.specs.Hanging.{with_new}
use Rattle.plain_next.proofs.Reaching.{all_reached, next_less, next_on}
use Rattle.plain_next.proofs.hanging.reached.Goals as goal

pub loop-looked-smaller : goal.loop-looked-smaller
loop-looked-smaller c =
    let inside : c.loop-looked.looked < length c.loop-looked.found.items = omega (arith, c.len.ensures, c.loop-looked-test.true) in
    next_less c.args.def.now c.args.past.now c.loop-looked.found.items c.in_ok-next.next.items c.add_new.new.found.items c.loop-looked.looked
    _ inside c.in_ok-next.ensures (c.in_ok-add_new.ensures ∙ ap (λ xs. with_new xs c.loop-looked.found.items) c.as_slice.ensures.value)

pub loop-looked-preserved : goal.loop-looked-preserved
loop-looked-preserved c =
    let inside : c.loop-looked.looked < length c.loop-looked.found.items = omega (arith, c.len.ensures, c.loop-looked-test.true) in
    next_on c.args.def.now c.args.past.now c.args.actor c.loop-looked.found.items c.in_ok-next.next.items c.add_new.new.found.items
    c.loop-looked.looked _ c.index.ensures c.loop-looked.invariant inside c.in_ok-next.ensures
    (c.in_ok-add_new.ensures ∙ ap (λ xs. with_new xs c.loop-looked.found.items) c.as_slice.ensures.value)

pub returns : goal.returns
returns c =
    let end : length c.loop-looked.found.items ≤ c.loop-looked.looked = omega (arith, c.len.ensures, c.loop-looked-test.false) in
    all_reached c.args.def.now c.args.past.now c.args.actor c.loop-looked.found.items c.loop-looked.looked c.loop-looked.invariant end
