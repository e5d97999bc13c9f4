use Rattle.std.proofs.Common.{◌≡◌, None, refl, sym, subst}
use Rattle.board_core.specs.Turns.{move_of}
use Rattle.irq_sleeper.specs.Seen.{SleeperSeen}
use Rattle.irq_sleeper.specs.Steps.{StepsBy, inner_of}
use Rattle.irq_sleeper.proofs.Underway.{inner_none, inner_some}
use Rattle.irq_sleeper.specs.Wanted.{StepWants}
use Rattle.irq_sleeper.proofs.Wanting.{inner_wants}
use Rattle.irq_sleeper.proofs.sleeper.Sleeper.step_inner.Goals as goal

pub returns-in-Some-clause-steps : goal.returns-in-Some-clause-steps
returns-in-Some-clause-steps g c =
    let its = subst (λ (x : SleeperSeen). inner_of x.system ≡ move_of x.system c.in-Some.actor) c.self.view_is
    (inner_some c.self.inside.system c.in-Some.actor c.in-Some.ensures) in
    subst (λ due. StepsBy c.args.self.now due c.step.result c.step.new.self) (sym its) c.step.ensures.steps

pub returns-in-None-clause-steps : goal.returns-in-None-clause-steps
returns-in-None-clause-steps g c = (
  subst (λ (x : SleeperSeen). inner_of x.system ≡ None) c.self.view_is
      (inner_none c.self.inside.system c.in-None.ensures),
  refl,
)

pub returns-in-Some-clause-memory : goal.returns-in-Some-clause-memory
returns-in-Some-clause-memory g c =
    let wants = subst (λ (x : SleeperSeen). StepWants g.L.IrqLine.may_want x.system (move_of x.system c.in-Some.actor) c.step.result)
    (sym c.self.view_is) c.step.ensures.memory in
    subst (λ (x : SleeperSeen). StepWants g.L.IrqLine.may_want x.system (inner_of x.system) c.step.result) c.self.view_is
    (inner_wants g.L.IrqLine.may_want c.self.inside.system c.in-Some.actor c.step.result c.in-Some.ensures wants)
