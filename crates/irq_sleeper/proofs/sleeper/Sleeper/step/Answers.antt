use Rattle.std.proofs.Common.{Ok, Err, refl, subst}
use Rattle.board_core.specs.Turns.{move_of}
use Rattle.board_core.proofs.Hearing.{step_of_turn}
use Rattle.irq_sleeper.specs.Hearing.{HearsOn}
use Rattle.irq_sleeper.specs.Seen.{SleeperSeen}
use Rattle.irq_sleeper.specs.Steps.{StepsBy}
use Rattle.irq_sleeper.specs.Wanted.{StepWants}
use Rattle.board_core.proofs.Handing.{handed_on}
use Rattle.irq_sleeper.proofs.Hearing.{heeded_system, step_hears}
use Rattle.irq_sleeper.proofs.Underway.{step_refused, steps_by, turned}
use Rattle.irq_sleeper.proofs.Wanting.{step_wants}
use Rattle.irq_sleeper.proofs.sleeper.Sleeper.step.Goals as goal

pub returns-clause-steps : goal.returns-clause-steps
returns-clause-steps g c =
    let s = c.self.inside in
    subst (λ (x : SleeperSeen). StepsBy x (move_of x.system c.args.actor) (Ok c.heed.result) c.heed.new.self) c.self.view_is
    (steps_by (record { system = s.system; watch = s.watch; asleep = s.asleep; wake = s.wake }) c.turn.new.self
    c.heed.new.self (move_of s.system c.args.actor) c.in_ok-turn.turn c.heed.result c.in_ok-turn.ensures.turns c.heed.ensures)

pub returns-clause-heard : goal.returns-clause-heard
returns-clause-heard g c =
    let s = c.self.inside in
    let old : SleeperSeen = record { system = s.system; watch = s.watch; asleep = s.asleep; wake = s.wake } in
    subst (λ (x : SleeperSeen). HearsOn g.H.Handler.hears x c.args.handlers.now c.heed.new.self c.turn.new.handlers) c.self.view_is
    (step_hears g.H.Handler.hears old c.turn.new.self c.heed.new.self (move_of s.system c.args.actor) c.turn.result
    (step_of_turn s.system c.turn.new.self c.args.actor c.turn.result c.turn.ensures.turns)
    (heeded_system (turned old c.turn.new.self) c.in_ok-turn.turn c.heed.result c.heed.new.self c.heed.ensures)
    c.args.handlers.now c.turn.new.handlers c.turn.ensures.heard)

pub returns-in_err-turn-clause-steps : goal.returns-in_err-turn-clause-steps
returns-in_err-turn-clause-steps g c =
    let s = c.self.inside in
    let old : SleeperSeen = record { system = s.system; watch = s.watch; asleep = s.asleep; wake = s.wake } in
    rw (handed_on c.from_residual.ensures.1)
    (subst (λ (x : SleeperSeen). StepsBy x (move_of x.system c.args.actor) (Err c.in_err-turn.field-0.0) (turned old c.turn.new.self)) c.self.view_is
    (step_refused old c.turn.new.self c.args.actor c.in_err-turn.field-0.0 c.in_err-turn.ensures.turns))

pub returns-in_err-turn-clause-heard : goal.returns-in_err-turn-clause-heard
returns-in_err-turn-clause-heard g c =
    let s = c.self.inside in
    let old : SleeperSeen = record { system = s.system; watch = s.watch; asleep = s.asleep; wake = s.wake } in
    subst (λ (x : SleeperSeen). HearsOn g.H.Handler.hears x c.args.handlers.now (turned old c.turn.new.self) c.turn.new.handlers) c.self.view_is
    (step_hears g.H.Handler.hears old c.turn.new.self (turned old c.turn.new.self) (move_of s.system c.args.actor) c.turn.result
    (step_of_turn s.system c.turn.new.self c.args.actor c.turn.result c.turn.ensures.turns)
    refl c.args.handlers.now c.turn.new.handlers c.turn.ensures.heard)

pub returns-in_err-turn-clause-memory : goal.returns-in_err-turn-clause-memory
returns-in_err-turn-clause-memory g c =
    let s = c.self.inside in
    rw (handed_on c.from_residual.ensures.1)
    (subst (λ (x : SleeperSeen). StepWants g.L.IrqLine.may_want x.system (move_of x.system c.args.actor) (Err c.in_err-turn.field-0.0)) c.self.view_is
    (step_wants g.L.IrqLine.may_want s.system c.turn.new.self c.args.actor c.in_err-turn.field-0.0 c.in_err-turn.ensures.turns c.in_err-turn.ensures.memory))
