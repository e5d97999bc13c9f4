use Rattle.irq_pm.specs.Phases.{Going}
use Rattle.board_core.proofs.Handing.{handed_on}
use Rattle.irq_sleeper.specs.Hearing.{HearsOn}
use Rattle.irq_sleeper.proofs.Phased.{SleepStep, going_step, ok_is, falls, gone_on, stops, went}
use Rattle.irq_sleeper.proofs.Hearing.{hears_then}
use Rattle.irq_sleeper.proofs.Wanting.{stop_wants}
use Rattle.irq_sleeper.proofs.sleeper.Sleeper.go_on.Given as given
use Rattle.irq_sleeper.proofs.sleeper.Sleeper.go_on.Goals as goal
use Rattle.irq_sleeper.proofs.sleeper.Sleeper.go_on.Goals.{After-step_lowest}

-- the loop's step
abbrev step : (g : given.Over) (c : After-step_lowest g)
    → SleepStep c.args.self.now c.loop.self c.step_lowest.new.self c.args.picks.now Going Going c.step_lowest.result
step g c = going_step c.loop.invariant.goes c.step_lowest.ensures.steps

-- what was heard so far, with the loop's step
heard : (g : given.Over) (c : After-step_lowest g)
    → HearsOn g.H.Handler.hears c.args.self.now c.args.handlers.now c.step_lowest.new.self c.step_lowest.new.handlers
heard g c = hears_then g.H.Handler.hears c.args.self.now c.loop.self c.step_lowest.new.self c.args.handlers.now
    c.loop.handlers c.step_lowest.new.handlers c.loop.invariant.heard c.loop.invariant.goes.1.told c.step_lowest.ensures.heard

pub loop-smaller : goal.loop-smaller
loop-smaller g c = falls (step g (goal.at.loop-smaller g c).After-step_lowest) (ok_is c.in_ok-step_lowest.was c.if-branch.true)

pub loop-preserved : goal.loop-preserved
loop-preserved g c = record {
  goes = went (step g (goal.at.loop-preserved g c).After-step_lowest) (ok_is c.in_ok-step_lowest.was c.if-branch.true);
  heard = heard g (goal.at.loop-preserved g c).After-step_lowest;
}

pub returns-in_err-step_lowest-clause-ends : goal.returns-in_err-step_lowest-clause-ends
returns-in_err-step_lowest-clause-ends g c = rw (handed_on c.from_residual.ensures.1)
    (stops (step g (goal.at.returns-in_err-step_lowest-clause-ends g c).After-step_lowest) c.in_err-step_lowest.was)

pub returns-in_err-step_lowest-clause-heard : goal.returns-in_err-step_lowest-clause-heard
returns-in_err-step_lowest-clause-heard g c = heard g (goal.at.returns-in_err-step_lowest-clause-heard g c).After-step_lowest

pub returns-in_err-step_lowest-clause-memory : goal.returns-in_err-step_lowest-clause-memory
returns-in_err-step_lowest-clause-memory g c = rw (handed_on c.from_residual.ensures.1)
    (stop_wants g.L.IrqLine.may_want (step g (goal.at.returns-in_err-step_lowest-clause-memory g c).After-step_lowest) c.in_err-step_lowest.was
    c.step_lowest.ensures.memory)

pub returns-clause-ends : goal.returns-clause-ends
returns-clause-ends g c = gone_on c.args.self.now c.loop.self c.step_lowest.new.self c.args.picks.now c.step_lowest.result c.loop.invariant.goes
    (ok_is c.in_ok-step_lowest.was c.if-branch.false) c.step_lowest.ensures.steps

pub returns-clause-heard : goal.returns-clause-heard
returns-clause-heard g c = heard g (goal.at.returns-clause-heard g c).After-step_lowest
