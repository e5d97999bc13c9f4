use Rattle.std.proofs.Common.{sym, ◌∙◌}
use Rattle.irq_pm.specs.Phases.{Disabling}
use Rattle.board_core.proofs.Handing.{handed_on}
use Rattle.irq_sleeper.specs.Hearing.{HearsOn}
use Rattle.irq_sleeper.proofs.Phased.{SleepStep, disabling_step, ok_is, falls, falls_asleep, stops, stuck_so, went}
use Rattle.irq_sleeper.proofs.Hearing.{hears_then, hears_asleep}
use Rattle.irq_sleeper.proofs.Wanting.{stop_wants}
use Rattle.irq_sleeper.proofs.sleeper.Sleeper.suspend.Given as given
use Rattle.irq_sleeper.proofs.sleeper.Sleeper.suspend.Goals as goal
use Rattle.irq_sleeper.proofs.sleeper.Sleeper.suspend.Goals.{After-step_disabling}

-- the loop's step
abbrev step : (g : given.Over) (c : After-step_disabling g)
    → SleepStep c.args.self.now c.loop-self.self c.step_disabling.new.self c.args.picks.now Disabling Disabling c.step_disabling.result
step g c = disabling_step c.loop-self.invariant.goes (sym c.is_disabling.ensures ∙ c.loop-self-test.true) c.step_disabling.ensures.steps

-- what was heard so far, with the loop's step
heard : (g : given.Over) (c : After-step_disabling g)
    → HearsOn g.H.Handler.hears c.args.self.now c.args.handlers.now c.step_disabling.new.self c.step_disabling.new.handlers
heard g c = hears_then g.H.Handler.hears c.args.self.now c.loop-self.self c.step_disabling.new.self c.args.handlers.now
    c.loop-self.handlers c.step_disabling.new.handlers c.loop-self.invariant.heard c.loop-self.invariant.goes.1.told c.step_disabling.ensures.heard

pub loop-self-smaller : goal.loop-self-smaller
loop-self-smaller g c =
    falls (step g (goal.at.loop-self-smaller g c).After-step_disabling) (ok_is c.in_ok-step_disabling.was c.if-not-branch.false)

pub loop-self-preserved : goal.loop-self-preserved
loop-self-preserved g c = record {
  goes = went (step g (goal.at.loop-self-preserved g c).After-step_disabling) (ok_is c.in_ok-step_disabling.was c.if-not-branch.false);
  heard = heard g (goal.at.loop-self-preserved g c).After-step_disabling;
}

pub returns-in_err-step_disabling-clause-reaches : goal.returns-in_err-step_disabling-clause-reaches
returns-in_err-step_disabling-clause-reaches g c = rw (handed_on c.from_residual.ensures.1)
    (stops (step g (goal.at.returns-in_err-step_disabling-clause-reaches g c).After-step_disabling) c.in_err-step_disabling.was)

pub returns-in_err-step_disabling-clause-heard : goal.returns-in_err-step_disabling-clause-heard
returns-in_err-step_disabling-clause-heard g c = heard g (goal.at.returns-in_err-step_disabling-clause-heard g c).After-step_disabling

pub returns-in_err-step_disabling-clause-memory : goal.returns-in_err-step_disabling-clause-memory
returns-in_err-step_disabling-clause-memory g c = rw (handed_on c.from_residual.ensures.1)
    (stop_wants g.L.IrqLine.may_want (step g (goal.at.returns-in_err-step_disabling-clause-memory g c).After-step_disabling)
    c.in_err-step_disabling.was c.step_disabling.ensures.memory)

pub returns-then-not-branch-clause-reaches : goal.returns-then-not-branch-clause-reaches
returns-then-not-branch-clause-reaches g c =
    stuck_so c.args.self.now c.loop-self.self c.step_disabling.new.self c.args.picks.now c.step_disabling.result c.loop-self.invariant.goes
    (sym c.is_disabling.ensures ∙ c.loop-self-test.true) (ok_is c.in_ok-step_disabling.was c.if-not-branch.true) c.step_disabling.ensures.steps

pub returns-then-not-branch-clause-heard : goal.returns-then-not-branch-clause-heard
returns-then-not-branch-clause-heard g c = heard g (goal.at.returns-then-not-branch-clause-heard g c).After-step_disabling

pub returns-clause-reaches : goal.returns-clause-reaches
returns-clause-reaches g c = falls_asleep c.loop-self.invariant.goes (sym c.is_disabling.ensures ∙ c.loop-self-test.false) c.fall_asleep.ensures

pub returns-clause-heard : goal.returns-clause-heard
returns-clause-heard g c = hears_asleep g.H.Handler.hears c.args.self.now c.loop-self.self c.fall_asleep.new.self c.args.handlers.now c.loop-self.handlers
    c.loop-self.invariant.heard c.fall_asleep.ensures
