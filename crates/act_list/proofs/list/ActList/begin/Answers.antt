use Rattle.std.proofs.Common.{◌+◌, Bool, List, take, sym, subst, ap, ◌∙◌}
use Rattle.irq_base.specs.declared.numbers.DevNo.{DevNo}
use Rattle.act_list.specs.Lists.{ActListSeen, ListSeen, after_begin}
use Rattle.act_list.specs.Stamps.{stamped, AreStamps, AreBegun}
use Rattle.act_list.proofs.Stamping.{stamp_is, put_stamps}
use Rattle.act_list.proofs.Walking.{begun_keeps}
use Rattle.act_list.proofs.list.ActList.begin.Goals as goal

pub place_after-self-inside-requires-clause-begun : goal.place_after-self-inside-requires-clause-begun
place_after-self-inside-requires-clause-begun c =
    let n = c.self.inside.rounds + 1 in
    let t = take c.self.inside.hint c.self.inside.actions.actions in
    subst (λ (b : List (DevNo × Bool)). AreBegun b t) (sym
    (ap (stamped n) c.set.ensures ∙ stamp_is n c.self.inside.stamps c.args.dev))
    (begun_keeps (stamped n c.self.inside.stamps) c.args.dev t c.self.invariant.begun)

pub invariant_of-self : goal.invariant_of-self
invariant_of-self c = record {
  few = c.self.invariant.few;
  stamps = subst (AreStamps (c.self.inside.rounds + 1)) (sym c.set.ensures)
      (put_stamps (c.self.inside.rounds + 1) c.self.inside.stamps c.args.dev c.self.invariant.stamps);
  within = c.place_after-self-inside.ensures.within;
  begun = c.place_after-self-inside.ensures.begun;
}

pub returns-clause-list : goal.returns-clause-list
returns-clause-list c =
    let n = c.self.inside.rounds + 1 in
    let named : List (DevNo × Bool) → ListSeen = λ b. record { actions = c.self.inside.actions.actions; begun = b; rounds = c.self.inside.rounds } in
    ap named (ap (stamped n) c.set.ensures ∙ stamp_is n c.self.inside.stamps c.args.dev)
    ∙ ap (λ (s : ActListSeen). after_begin c.args.dev s.list) c.self.view_is
