use Rattle.std.proofs.Common.{◌≡◌, Some, ap, ◌∙◌, arith, subst}
use Rattle.std.proofs.lemmas.Grind.{common_steps}
use Rattle.std.specs.Map.{lookup}
use Rattle.irq_model.specs.Kinds.{same_dev}
use Rattle.act_list.specs.Actions.{ActionsSeen, AreKept}
use Rattle.act_list.proofs.Bits.{no_bit, one_bit_there}
use Rattle.act_list.proofs.actions.Actions.bit.Goals as goal

pub returns-then-action-eq0-clause-oneshot : goal.returns-then-action-eq0-clause-oneshot
returns-then-action-eq0-clause-oneshot c =
    let found : Some c.in_ok-action.action ≡ lookup (same_dev c.args.dev) c.self.inside.map.entries = grind (arith, common_steps) in
    let kept = subst (λ (s : ActionsSeen). AreKept s.actions) c.self.view_is c.self.invariant in
    no_bit c.args.dev c.args.self.now.actions c.in_ok-action.action kept.have
    (found ∙ ap (λ (s : ActionsSeen). lookup (same_dev c.args.dev) s.actions) c.self.view_is) c.if-action-eq0.true

pub returns-clause-oneshot : goal.returns-clause-oneshot
returns-clause-oneshot c =
    let found : Some c.in_ok-action.action ≡ lookup (same_dev c.args.dev) c.self.inside.map.entries = grind (arith, common_steps) in
    let kept = subst (λ (s : ActionsSeen). AreKept s.actions) c.self.view_is c.self.invariant in
    (one_bit_there c.args.dev c.args.self.now.actions c.in_ok-action.action kept.have
    (found ∙ ap (λ (s : ActionsSeen). lookup (same_dev c.args.dev) s.actions) c.self.view_is)
    c.if-action-eq0.false).0

pub returns-clause-one : goal.returns-clause-one
returns-clause-one c =
    let found : Some c.in_ok-action.action ≡ lookup (same_dev c.args.dev) c.self.inside.map.entries = grind (arith, common_steps) in
    (one_bit_there c.args.dev c.self.inside.map.entries c.in_ok-action.action c.self.invariant.have found c.if-action-eq0.false).1
