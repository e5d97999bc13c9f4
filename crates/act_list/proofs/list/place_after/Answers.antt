use Rattle.std.proofs.Common.{sym, ◌∙◌, arith}
use Rattle.act_list.specs.Stamps.{stamped}
use Rattle.act_list.proofs.Walking.{begun_next, place_within}
use Rattle.act_list.proofs.list.place_after.Goals as goal

pub overflow_add-result : goal.overflow_add-result
overflow_add-result c =
    let more = place_within c.args.actions.now.actions c.args.from c.in-Some.dev c.in-Some.ensures in
    omega (arith, more, c.len-length.ensures, c.len-length.type_inv)

pub returns-in-Some-clause-within : goal.returns-in-Some-clause-within
returns-in-Some-clause-within c = place_within c.args.actions.now.actions c.args.from c.in-Some.dev c.in-Some.ensures

pub returns-in-Some-clause-begun : goal.returns-in-Some-clause-begun
returns-in-Some-clause-begun c =
    begun_next (stamped c.args.stamp c.args.stamps.now) c.args.actions.now.actions c.args.from c.in-Some.dev
    c.in-Some.ensures (sym c.is_stamped.ensures ∙ c.if-is_stamped.true) c.requires.begun
