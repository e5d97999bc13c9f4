use Rattle.std.proofs.Common.{◌+◌, Bool, List, ap, ◌∙◌, arith}
use Rattle.irq_base.specs.declared.numbers.DevNo.{DevNo}
use Rattle.act_list.specs.Lists.{ActListSeen, ListSeen, after_begin_round}
use Rattle.act_list.proofs.Stamping.{next_round, still_stamps}
use Rattle.act_list.proofs.list.ActList.begin_round.Goals as goal

pub invariant_of-self : goal.invariant_of-self
invariant_of-self c = record {
  few = omega (arith, ap (λ (s : ActListSeen). s.list.rounds) c.self.view_is, c.requires);
  stamps = still_stamps (c.self.inside.rounds + 1) c.self.inside.stamps c.self.invariant.stamps;
  within = omega arith;
  begun = tt;
}

pub returns-clause-list : goal.returns-clause-list
returns-clause-list c =
    let named : List (DevNo × Bool) → ListSeen = λ b. record { actions = c.self.inside.actions.actions; begun = b; rounds = c.self.inside.rounds + 1 } in
    ap named (next_round (c.self.inside.rounds + 1) c.self.inside.stamps c.self.invariant.stamps)
    ∙ ap (λ (s : ActListSeen). after_begin_round s.list) c.self.view_is
