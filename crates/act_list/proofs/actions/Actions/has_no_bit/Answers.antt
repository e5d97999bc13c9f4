use Rattle.std.proofs.Common.{◌&&◌, length, ap, ◌∙◌, subst}
use Rattle.act_list.specs.Actions.{ActionsSeen, AreKept}
use Rattle.act_list.proofs.Bits.{many_at, full_at}
use Rattle.act_list.proofs.actions.Actions.has_no_bit.Goals as goal

pub returns-then-flags-clause-many : goal.returns-then-flags-clause-many
returns-then-flags-clause-many c =
    many_at c.args.flags c.args.self.now.actions c.len.result
    (subst (λ (s : ActionsSeen). AreKept s.actions) c.self.view_is c.self.invariant) c.if-flags.true c.requires
    (c.len.ensures.len ∙ ap (λ (s : ActionsSeen). length s.actions) c.self.view_is)

pub returns-then-flags-clause-full : goal.returns-then-flags-clause-full
returns-then-flags-clause-full c =
    let kept = subst (λ (s : ActionsSeen). AreKept s.actions) c.self.view_is c.self.invariant in
    many_at c.args.flags c.args.self.now.actions c.len.result kept c.if-flags.true c.requires
    (c.len.ensures.len ∙ ap (λ (s : ActionsSeen). length s.actions) c.self.view_is)
    ∙ ap (λ b. c.args.flags.oneshot && b) (full_at c.args.flags c.args.self.now.actions kept c.if-flags.true
    c.requires)
