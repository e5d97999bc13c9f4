use Rattle.board_core.proofs.Handing.{handed_on}
use Rattle.irq_sleeper.proofs.Phased.{first_pick, pick_done, pick_stops}
use Rattle.irq_sleeper.proofs.Hearing.{hears_none, hears_then}
use Rattle.irq_sleeper.proofs.Wanting.{pick_wants}
use Rattle.irq_sleeper.proofs.sleeper.Sleeper.make_picks.Goals as goal

pub loop-pick-init : goal.loop-pick-init
loop-pick-init g c = record {
  goes = first_pick c.args.self.now c.args.picks.now c.requires;
  heard = hears_none g.H.Handler.hears c.args.self.now c.args.handlers.now;
}

pub returns-in_err-step-clause-reaches : goal.returns-in_err-step-clause-reaches
returns-in_err-step-clause-reaches g c = rw (handed_on c.from_residual.ensures.1)
    (pick_stops _ c.loop-pick-test.true c.loop-pick.invariant.goes c.step.ensures.steps c.in_err-step.was)

pub loop-pick-preserved : goal.loop-pick-preserved
loop-pick-preserved g c = record {
  goes = pick_done _ c.loop-pick-test.true c.loop-pick.invariant.goes c.step.ensures.steps c.in_ok-step.was;
  heard = hears_then g.H.Handler.hears c.args.self.now c.loop-pick.self c.step.new.self c.args.handlers.now c.loop-pick.handlers c.step.new.handlers
      c.loop-pick.invariant.heard c.loop-pick.invariant.goes.1.told c.step.ensures.heard;
}

pub returns-in_err-step-clause-heard : goal.returns-in_err-step-clause-heard
returns-in_err-step-clause-heard g c =
    hears_then g.H.Handler.hears c.args.self.now c.loop-pick.self c.step.new.self c.args.handlers.now c.loop-pick.handlers c.step.new.handlers
    c.loop-pick.invariant.heard c.loop-pick.invariant.goes.1.told c.step.ensures.heard

pub returns-in_err-step-clause-memory : goal.returns-in_err-step-clause-memory
returns-in_err-step-clause-memory g c = rw (handed_on c.from_residual.ensures.1)
    (pick_wants g.L.IrqLine.may_want c.loop-pick.self c.step.new.self _ c.loop-pick-test.true c.loop-pick.invariant.goes c.step.result
    c.step.ensures.steps c.in_err-step.was c.step.ensures.memory)
