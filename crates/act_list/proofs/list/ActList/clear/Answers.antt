use Rattle.std.proofs.Common.{◌+◌, Bool, [], List, sym, subst, ap, ◌∙◌, arith}
use Rattle.irq_base.specs.declared.numbers.DevNo.{DevNo}
use Rattle.act_list.specs.Lists.{ActListSeen, ListSeen, unlinked}
use Rattle.act_list.specs.Stamps.{stamped, AreStamps}
use Rattle.act_list.specs.declared.actions.Action.{Action}
use Rattle.act_list.proofs.Stamping.{none_filled, filled_stamps}
use Rattle.act_list.proofs.list.ActList.clear.Goals as goal

pub invariant_of-self : goal.invariant_of-self
invariant_of-self c = record {
  few = omega arith;
  stamps = subst (AreStamps 1) (sym c.fill.ensures) (filled_stamps c.self.inside.stamps);
  within = omega arith;
  begun = tt;
}

pub returns-clause-list : goal.returns-clause-list
returns-clause-list c =
    let with_actions : List (DevNo × Action) → ListSeen = λ a. record { actions = a; begun = stamped 1 c.fill.new.self; rounds = 0 } in
    let with_begun : List (DevNo × Bool) → ListSeen = λ b. record { actions = []; begun = b; rounds = 0 } in
    ap with_actions c.clear.ensures.actions
    ∙ (ap with_begun (ap (stamped 1) c.fill.ensures ∙ none_filled (c.self.inside.rounds + 1) c.self.inside.stamps)
    ∙ ap (λ (s : ActListSeen). unlinked s.list) c.self.view_is)
