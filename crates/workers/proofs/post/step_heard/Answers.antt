use Rattle.std.proofs.Common.{Ok, Err, subst, ◌∙◌}
use Rattle.callbacks.specs.contracts.before.BeforeHears as before
use Rattle.irq_base.specs.declared.devices.Run.{Run}
use Rattle.irq_line.specs.declared.answers.Stepped.{Stepped}
use Rattle.irq_line.specs.declared.answers.StepRefused.{StepRefused}
use Rattle.line_shared.specs.Stepping.{Steps}
use Rattle.workers.proofs.Trying.{called_given, said_given, tries_added, tries_not_yet, tries_refused, waits_on, its_actor}
use Rattle.workers.proofs.post.step_heard.Goals as goal

pub returns-in-Ok-Added-clause-tries : goal.returns-in-Ok-Added-clause-tries
returns-in-Ok-Added-clause-tries g c = λ who is.
    tries_added g.L.IrqLine.seen g.L.IrqLine.may_want before.TheImpl.ghosts.hears before.TheImpl.ghosts.lacks
    (g.H.SharedHandler.gave c.args.handlers.now) c.args.line.now who c.args.pass.now c.loop.pass c.step.new.pass
    c.loop.before c.step.new.before c.loop.invariant.waits c.in-Ok-Added.entry
    (λ run heard. said_given (g.H.SharedHandler.gave c.args.handlers.now) c.loop.before.said run c.loop.invariant.given heard.0)
    (subst (λ (s : Stepped Run). Steps g.L.IrqLine.seen g.L.IrqLine.may_want before.TheImpl.ghosts.hears
    before.TheImpl.ghosts.lacks c.args.line.now.def who c.loop.pass.knows c.loop.before (Ok s) c.step.new.pass.knows
    c.step.new.before)
    c.in-Ok-Added.field-0-is (c.in-Ok-Added.ensures.steps who (c.loop.invariant.waits.actor ∙ is)))

pub returns-in-Ok-NotYet-clause-tries : goal.returns-in-Ok-NotYet-clause-tries
returns-in-Ok-NotYet-clause-tries g c = λ who is.
    tries_not_yet g.L.IrqLine.seen g.L.IrqLine.may_want before.TheImpl.ghosts.hears before.TheImpl.ghosts.lacks
    (g.H.SharedHandler.gave c.args.handlers.now) c.args.line.now who c.args.pass.now c.loop.pass c.step.new.pass
    c.loop.before c.step.new.before c.loop.invariant.waits
    (subst (λ (s : Stepped Run). Steps g.L.IrqLine.seen g.L.IrqLine.may_want before.TheImpl.ghosts.hears
    before.TheImpl.ghosts.lacks c.args.line.now.def who c.loop.pass.knows c.loop.before (Ok s) c.step.new.pass.knows
    c.step.new.before)
    c.in-Ok-NotYet.field-0-is (c.in-Ok-NotYet.ensures.steps who (c.loop.invariant.waits.actor ∙ is)))

pub loop-preserved : goal.loop-preserved
loop-preserved g c =
    let who = its_actor c.args.pass.now.knows.actor c.requires.actor in
    record {
      waits = waits_on g.L.IrqLine.seen g.L.IrqLine.may_want before.TheImpl.ghosts.hears before.TheImpl.ghosts.lacks
          (g.H.SharedHandler.gave c.args.handlers.now) c.args.line.now who.0 c.args.pass.now c.loop.pass c.step.new.pass
          c.loop.before c.step.new.before c.loop.invariant.waits c.in-Ok-Lacks.run'
          (subst (λ (s : Stepped Run). Steps g.L.IrqLine.seen g.L.IrqLine.may_want before.TheImpl.ghosts.hears
          before.TheImpl.ghosts.lacks c.args.line.now.def who.0 c.loop.pass.knows c.loop.before (Ok s)
          c.step.new.pass.knows c.step.new.before) c.in-Ok-Lacks.field-0-is (c.in-Ok-Lacks.ensures.steps who.0
          (c.loop.invariant.waits.actor ∙ who.1)))
          c.step.ensures.pass c.step.ensures.idle c.step.ensures.same_actor;
      given = called_given (g.H.SharedHandler.gave c.args.handlers.now) c.in-Ok-Lacks.run' c.of.result c.of.ensures.said c.of.ensures.gave;
    }

pub returns-in-Err-clause-tries : goal.returns-in-Err-clause-tries
returns-in-Err-clause-tries g c = λ who is.
    tries_refused g.L.IrqLine.seen g.L.IrqLine.may_want before.TheImpl.ghosts.hears before.TheImpl.ghosts.lacks
    (g.H.SharedHandler.gave c.args.handlers.now) c.args.line.now who c.args.pass.now c.loop.pass c.step.new.pass
    c.loop.before c.step.new.before c.loop.invariant.waits c.in-Err.refused
    (subst (λ (r : StepRefused). Steps g.L.IrqLine.seen g.L.IrqLine.may_want before.TheImpl.ghosts.hears
    before.TheImpl.ghosts.lacks c.args.line.now.def who c.loop.pass.knows c.loop.before (Err r)
    c.step.new.pass.knows c.step.new.before) c.in-Err.refused-is
    (c.in-Err.ensures.steps who (c.loop.invariant.waits.actor ∙ is)))
