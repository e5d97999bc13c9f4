use Rattle.irq_pm.specs.Phases.{Enabling}
use Rattle.board_core.proofs.Handing.{handed_on}
use Rattle.irq_sleeper.specs.Hearing.{HearsOn}
use Rattle.irq_sleeper.proofs.Phased.{SleepStep, enabling_step, ok_is, falls, opened, stops, went}
use Rattle.irq_sleeper.proofs.Hearing.{hears_then}
use Rattle.irq_sleeper.proofs.Wanting.{stop_wants}
use Rattle.irq_sleeper.proofs.sleeper.Sleeper.resume.Given as given
use Rattle.irq_sleeper.proofs.sleeper.Sleeper.resume.Goals as goal
use Rattle.irq_sleeper.proofs.sleeper.Sleeper.resume.Goals.{After-step}

-- the loop's step
abbrev step : (g : given.Over) (c : After-step g)
    → SleepStep c.args.self.now c.loop.self c.step.new.self c.args.picks.now Enabling Enabling c.step.result
step g c = enabling_step c.loop.invariant.goes c.step.ensures.steps

-- what was heard so far, with the loop's step
heard : (g : given.Over) (c : After-step g)
    → HearsOn g.H.Handler.hears c.args.self.now c.args.handlers.now c.step.new.self c.step.new.handlers
heard g c = hears_then g.H.Handler.hears c.args.self.now c.loop.self c.step.new.self c.args.handlers.now
    c.loop.handlers c.step.new.handlers c.loop.invariant.heard c.loop.invariant.goes.1.told c.step.ensures.heard

pub loop-smaller : goal.loop-smaller
loop-smaller g c = falls (step g (goal.at.loop-smaller g c).After-step) (ok_is c.in_ok-step.was c.if-branch.true)

pub loop-preserved : goal.loop-preserved
loop-preserved g c = record {
  goes = went (step g (goal.at.loop-preserved g c).After-step) (ok_is c.in_ok-step.was c.if-branch.true);
  heard = heard g (goal.at.loop-preserved g c).After-step;
}

pub returns-in_err-step-clause-reaches : goal.returns-in_err-step-clause-reaches
returns-in_err-step-clause-reaches g c = rw (handed_on c.from_residual.ensures.1)
    (stops (step g (goal.at.returns-in_err-step-clause-reaches g c).After-step) c.in_err-step.was)

pub returns-in_err-step-clause-heard : goal.returns-in_err-step-clause-heard
returns-in_err-step-clause-heard g c = heard g (goal.at.returns-in_err-step-clause-heard g c).After-step

pub returns-in_err-step-clause-memory : goal.returns-in_err-step-clause-memory
returns-in_err-step-clause-memory g c = rw (handed_on c.from_residual.ensures.1)
    (stop_wants g.L.IrqLine.may_want (step g (goal.at.returns-in_err-step-clause-memory g c).After-step) c.in_err-step.was
    c.step.ensures.memory)

pub returns-clause-reaches : goal.returns-clause-reaches
returns-clause-reaches g c = opened c.args.self.now c.loop.self c.step.new.self c.args.picks.now c.step.result c.loop.invariant.goes
    (ok_is c.in_ok-step.was c.if-branch.false) c.step.ensures.steps

pub returns-clause-heard : goal.returns-clause-heard
returns-clause-heard g c = heard g (goal.at.returns-clause-heard g c).After-step
