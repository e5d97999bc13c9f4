use Rattle.std.proofs.Common.{sym, ◌∙◌, arith}
use Rattle.act_list.specs.Stamps.{stamped}
use Rattle.act_list.proofs.Walking.{begun_next, place_within}
use Rattle.act_list.proofs.list.place_left.Goals as goal

pub overflow_add-place : goal.overflow_add-place
overflow_add-place c =
    let more = place_within c.args.actions.now.actions c.loop-dev.place c.in-Some.dev c.in-Some.ensures in
    omega (arith, more, c.len-length.ensures, c.len-length.type_inv)

pub loop-dev-smaller : goal.loop-dev-smaller
loop-dev-smaller c = let more = place_within c.args.actions.now.actions c.loop-dev.place c.in-Some.dev c.in-Some.ensures in omega (arith, more)

pub loop-dev-preserved : goal.loop-dev-preserved
loop-dev-preserved c = record {
  within = place_within c.args.actions.now.actions c.loop-dev.place c.in-Some.dev c.in-Some.ensures;
  begun =
      begun_next (stamped c.args.stamp c.args.stamps.now) c.args.actions.now.actions c.loop-dev.place c.in-Some.dev
      c.in-Some.ensures (sym c.is_stamped.ensures ∙ c.if-not-is_stamped.false) c.loop-dev.invariant.begun;
}
