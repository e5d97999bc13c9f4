use Rattle.std.proofs.Common.{Bool, [], List, sym, subst, ap, ◌∙◌, arith}
use Rattle.irq_base.specs.declared.numbers.DevNo.{DevNo}
use Rattle.act_list.specs.Lists.{ListSeen}
use Rattle.act_list.specs.Stamps.{stamped, AreStamps}
use Rattle.act_list.specs.declared.actions.Action.{Action}
use Rattle.act_list.proofs.Stamping.{none_stamped, first_stamps}
use Rattle.act_list.proofs.list.ActList.new.Goals as goal

pub invariant_of-result : goal.invariant_of-result
invariant_of-result c = record {
  few = omega arith;
  stamps = subst (AreStamps 1) (sym c.in_ok-stamps.ensures) (first_stamps c.args.def.now.devices);
  within = omega arith;
  begun = tt;
}

pub returns : goal.returns
returns c =
    let with_actions : List (DevNo × Action) → ListSeen = λ a. record { actions = a; begun = stamped 1 c.in_ok-stamps.stamps; rounds = 0 } in
    let with_begun : List (DevNo × Bool) → ListSeen = λ b. record { actions = []; begun = b; rounds = 0 } in
    ap with_actions c.new-2.ensures ∙ ap with_begun (ap (stamped 1) c.in_ok-stamps.ensures ∙ none_stamped c.args.def.now.devices)
