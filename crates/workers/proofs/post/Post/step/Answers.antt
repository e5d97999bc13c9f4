use Rattle.std.proofs.Common.{Bool, false, sym, ap, subst, ◌∙◌}
use Rattle.line_lock.specs.declared.view.Known.{Known}
use Rattle.workers.specs.Seen.{PostSeen}
use Rattle.workers.specs.Tries.{Glances}
use Rattle.workers.specs.Terms.{terms_of}
use Rattle.workers.proofs.Trying.{actor_after_looks, after_looks, tries_still}
use Rattle.workers.proofs.post.Post.step.Goals as goal

pub returns-then-is_still-clause-tries : goal.returns-then-is_still-clause-tries
returns-then-is_still-clause-tries g c = λ who is. tries_still
    (terms_of g.L.IrqLine.seen g.L.IrqLine.may_want (g.H.SharedHandler.gave c.args.handlers.now)) c.args.line.now.def
    who c.args.self.now.pass.knows c.is_still.new.self.pass.knows
    (c.requires.known (c.is_still.ensures.still c.if-is_still.true) who is)
    (subst (λ (b : Bool). Glances c.args.self.now.pass.knows b c.is_still.new.self.pass.knows) c.if-is_still.true c.is_still.ensures.looks)

pub returns-clause-tries : goal.returns-clause-tries
returns-clause-tries g c =
    let looked : Glances c.args.self.now.pass.knows false c.self.inside.pass.knows =
    subst (λ (k : Known). Glances c.args.self.now.pass.knows false k) (sym (ap (λ (s : PostSeen). s.pass.knows) c.self.view_is))
    (subst (λ (b : Bool). Glances c.args.self.now.pass.knows b c.is_still.new.self.pass.knows) c.if-is_still.false c.is_still.ensures.looks) in
    λ who is. after_looks (terms_of g.L.IrqLine.seen g.L.IrqLine.may_want (g.H.SharedHandler.gave c.args.handlers.now)) c.args.line.now.def
    who c.args.self.now.pass.knows c.self.inside.pass.knows c.step_heard-tried.new.pass.knows c.step_heard-tried.result looked
    (c.step_heard-tried.ensures.tries who (actor_after_looks c.args.self.now.pass.knows c.self.inside.pass.knows looked ∙ is))
