use Rattle.std.proofs.Common.{◌≡◌, None, sym, ap, ◌∙◌}
use Rattle.irq_pm.specs.Phases.{Asleep}
use Rattle.irq_sleeper.specs.Seen.{SleeperSeen}
use Rattle.board_core.proofs.Handing.{handed_on}
use Rattle.irq_sleeper.specs.Hearing.{HearsOn}
use Rattle.irq_sleeper.proofs.Phased.{SleepStep, sleeping_step, ok_is, no_line, falls, stops, went, wakes_by_line, wakes_by_none}
use Rattle.irq_sleeper.proofs.Hearing.{hears_then, hears_woken}
use Rattle.irq_sleeper.proofs.Wanting.{stop_wants}
use Rattle.irq_sleeper.proofs.sleeper.Sleeper.sleep.Given as given
use Rattle.irq_sleeper.proofs.sleeper.Sleeper.sleep.Goals as goal
use Rattle.irq_sleeper.proofs.sleeper.Sleeper.sleep.Goals.{After-step_asleep}

-- no line has woken the machine before the loop's step
not_woken : (g : given.Over) (c : After-step_asleep g) → c.loop-line.self.watch.woken ≡ None
not_woken g c = sym (ap (λ (s : SleeperSeen). s.watch.woken) c.self.view_is) ∙ (sym c.woken.ensures ∙ no_line c.in_default.not-Some)

-- the loop's step
abbrev step : (g : given.Over) (c : After-step_asleep g)
    → SleepStep c.args.self.now c.loop-line.self c.step_asleep.new.self c.args.picks.now Asleep Asleep c.step_asleep.result
step g c = sleeping_step c.loop-line.invariant.goes (not_woken g c) c.step_asleep.ensures.steps

-- what was heard so far, with the loop's step
heard : (g : given.Over) (c : After-step_asleep g)
    → HearsOn g.H.Handler.hears c.args.self.now c.args.handlers.now c.step_asleep.new.self c.step_asleep.new.handlers
heard g c = hears_then g.H.Handler.hears c.args.self.now c.loop-line.self c.step_asleep.new.self c.args.handlers.now
    c.loop-line.handlers c.step_asleep.new.handlers c.loop-line.invariant.heard c.loop-line.invariant.goes.1.told c.step_asleep.ensures.heard

pub returns-in-Some-clause-reaches : goal.returns-in-Some-clause-reaches
returns-in-Some-clause-reaches g c =
    wakes_by_line c.loop-line.invariant.goes (sym (ap (λ (s : SleeperSeen). s.watch.woken) c.self.view_is)
    ∙ (sym c.woken.ensures ∙ c.in-Some.is)) c.wake_by.ensures

pub loop-line-smaller : goal.loop-line-smaller
loop-line-smaller g c = falls (step g (goal.at.loop-line-smaller g c).After-step_asleep) (ok_is c.in_ok-step_asleep.was c.if-not-branch.false)

pub loop-line-preserved : goal.loop-line-preserved
loop-line-preserved g c = record {
  goes = went (step g (goal.at.loop-line-preserved g c).After-step_asleep) (ok_is c.in_ok-step_asleep.was c.if-not-branch.false);
  heard = heard g (goal.at.loop-line-preserved g c).After-step_asleep;
}

pub returns-then-not-branch-clause-reaches : goal.returns-then-not-branch-clause-reaches
returns-then-not-branch-clause-reaches g c =
    wakes_by_none c.step_asleep.new.self c.loop-line.invariant.goes (not_woken g (goal.at.returns-then-not-branch-clause-reaches g c).After-step_asleep)
    (ok_is c.in_ok-step_asleep.was c.if-not-branch.true) c.step_asleep.ensures.steps c.wake_by-then-not-branch.ensures

pub returns-in_err-step_asleep-clause-reaches : goal.returns-in_err-step_asleep-clause-reaches
returns-in_err-step_asleep-clause-reaches g c = rw (handed_on c.from_residual.ensures.1)
    (stops (step g (goal.at.returns-in_err-step_asleep-clause-reaches g c).After-step_asleep) c.in_err-step_asleep.was)

pub returns-in_err-step_asleep-clause-heard : goal.returns-in_err-step_asleep-clause-heard
returns-in_err-step_asleep-clause-heard g c = heard g (goal.at.returns-in_err-step_asleep-clause-heard g c).After-step_asleep

pub returns-in_err-step_asleep-clause-memory : goal.returns-in_err-step_asleep-clause-memory
returns-in_err-step_asleep-clause-memory g c = rw (handed_on c.from_residual.ensures.1)
    (stop_wants g.L.IrqLine.may_want (step g (goal.at.returns-in_err-step_asleep-clause-memory g c).After-step_asleep) c.in_err-step_asleep.was
    c.step_asleep.ensures.memory)

pub returns-in-Some-clause-heard : goal.returns-in-Some-clause-heard
returns-in-Some-clause-heard g c = hears_woken g.H.Handler.hears c.args.self.now c.loop-line.self c.wake_by.new.self _ c.args.handlers.now c.loop-line.handlers
    c.loop-line.invariant.heard c.wake_by.ensures

pub returns-then-not-branch-clause-heard : goal.returns-then-not-branch-clause-heard
returns-then-not-branch-clause-heard g c = hears_woken g.H.Handler.hears c.args.self.now c.step_asleep.new.self c.wake_by-then-not-branch.new.self _
    c.args.handlers.now c.step_asleep.new.handlers
    (heard g (goal.at.returns-then-not-branch-clause-heard g c).After-step_asleep)
    c.wake_by-then-not-branch.ensures
