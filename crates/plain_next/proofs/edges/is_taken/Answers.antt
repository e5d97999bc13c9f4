use Rattle.std.proofs.Common.{◌≡◌, ◌∙◌, ◌-◌, ◌+◌, ◌&&◌, ◌||◌, not, get_or, false, arith, ap}
use Rattle.std.proofs.lemmas.Grind.{common_steps}
use Rattle.plain_next.proofs.EdgeWalk.{opened_more, taken_more}
use Rattle.plain_next.proofs.edges.is_taken.Goals as goal

pub loop-i-preserved : goal.loop-i-preserved
loop-i-preserved c =
    let i = c.loop-i.i in
    let def = c.args.def.now in
    let past = c.args.past.now in
    let masked = c.args.masked.now in
    let took : c.if-is_take.taken ≡ ((c.is_take.result &&
    (not (get_or masked (i - 1 + 1) false) || (not def.recalls && c.loop-i.opened))) || c.loop-i.taken)
    = grind (arith, common_steps) in
    let here : i - 1 + 1 ≡ i = omega arith in
    let now = ap (λ n. get_or masked n false) here ∙ c.requires.table.each i (omega arith) in
    record {
      opened = opened_more def past c.args.place i c.loop-i.opened _ c.loop-i-test.true c.loop-i.auto.i c.requires.place
          c.loop-i.invariant.opened (c.requires.table.each _ (omega arith));
      taken =
          took
          ∙ (ap (λ b. (b && (not (get_or masked (i - 1 + 1) false) || (not def.recalls && c.loop-i.opened))) || c.loop-i.taken) c.is_take.ensures
          ∙ taken_more def past c.args.place i _ c.loop-i.taken c.loop-i.opened _ c.loop-i-test.true c.loop-i.auto.i
          c.requires.place c.loop-i.invariant.taken c.loop-i.invariant.opened now);
    }
