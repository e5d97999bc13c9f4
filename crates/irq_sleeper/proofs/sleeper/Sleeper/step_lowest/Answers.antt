use Rattle.std.proofs.Common.{Ok, Err, refl, subst}
use Rattle.board_core.specs.Turns.{lowest_move}
use Rattle.board_core.proofs.Hearing.{step_of_turn_by}
use Rattle.irq_sleeper.specs.Hearing.{HearsOn}
use Rattle.irq_sleeper.specs.Seen.{SleeperSeen}
use Rattle.irq_sleeper.specs.Steps.{StepsBy}
use Rattle.irq_sleeper.specs.Wanted.{StepWants}
use Rattle.board_core.proofs.Handing.{handed_on}
use Rattle.irq_sleeper.proofs.Hearing.{heeded_system, step_hears}
use Rattle.irq_sleeper.proofs.Underway.{lowest_refused, steps_by, turned}
use Rattle.irq_sleeper.proofs.Wanting.{lowest_wants}
use Rattle.irq_sleeper.proofs.sleeper.Sleeper.step_lowest.Goals as goal

pub returns-clause-steps : goal.returns-clause-steps
returns-clause-steps g c =
    let s = c.self.inside in
    subst (λ (x : SleeperSeen). StepsBy x (lowest_move x.system) (Ok c.heed.result) c.heed.new.self) c.self.view_is
    (steps_by (record { system = s.system; watch = s.watch; asleep = s.asleep; wake = s.wake }) c.turn_lowest.new.self
    c.heed.new.self (lowest_move s.system) c.in_ok-turn.turn c.heed.result c.in_ok-turn.ensures.turns c.heed.ensures)

pub returns-clause-heard : goal.returns-clause-heard
returns-clause-heard g c =
    let s = c.self.inside in
    let old : SleeperSeen = record { system = s.system; watch = s.watch; asleep = s.asleep; wake = s.wake } in
    subst (λ (x : SleeperSeen). HearsOn g.H.Handler.hears x c.args.handlers.now c.heed.new.self c.turn_lowest.new.handlers) c.self.view_is
    (step_hears g.H.Handler.hears old c.turn_lowest.new.self c.heed.new.self (lowest_move s.system) c.turn_lowest.result
    (step_of_turn_by s.system c.turn_lowest.new.self (lowest_move s.system) c.turn_lowest.result c.turn_lowest.ensures.turns)
    (heeded_system (turned old c.turn_lowest.new.self) c.in_ok-turn.turn c.heed.result c.heed.new.self c.heed.ensures)
    c.args.handlers.now c.turn_lowest.new.handlers c.turn_lowest.ensures.heard)

pub returns-in_err-turn-clause-steps : goal.returns-in_err-turn-clause-steps
returns-in_err-turn-clause-steps g c =
    let s = c.self.inside in
    let old : SleeperSeen = record { system = s.system; watch = s.watch; asleep = s.asleep; wake = s.wake } in
    rw (handed_on c.from_residual.ensures.1)
    (subst (λ (x : SleeperSeen). StepsBy x (lowest_move x.system) (Err c.in_err-turn.field-0.0) (turned old c.turn_lowest.new.self)) c.self.view_is
    (lowest_refused old c.turn_lowest.new.self c.in_err-turn.field-0.0 c.in_err-turn.ensures.turns))

pub returns-in_err-turn-clause-heard : goal.returns-in_err-turn-clause-heard
returns-in_err-turn-clause-heard g c =
    let s = c.self.inside in
    let old : SleeperSeen = record { system = s.system; watch = s.watch; asleep = s.asleep; wake = s.wake } in
    subst (λ (x : SleeperSeen). HearsOn g.H.Handler.hears x c.args.handlers.now (turned old c.turn_lowest.new.self) c.turn_lowest.new.handlers) c.self.view_is
    (step_hears g.H.Handler.hears old c.turn_lowest.new.self (turned old c.turn_lowest.new.self) (lowest_move s.system) c.turn_lowest.result
    (step_of_turn_by s.system c.turn_lowest.new.self (lowest_move s.system) c.turn_lowest.result c.turn_lowest.ensures.turns)
    refl c.args.handlers.now c.turn_lowest.new.handlers c.turn_lowest.ensures.heard)

pub returns-in_err-turn-clause-memory : goal.returns-in_err-turn-clause-memory
returns-in_err-turn-clause-memory g c =
    let s = c.self.inside in
    rw (handed_on c.from_residual.ensures.1)
    (subst (λ (x : SleeperSeen). StepWants g.L.IrqLine.may_want x.system (lowest_move x.system) (Err c.in_err-turn.field-0.0)) c.self.view_is
    (lowest_wants g.L.IrqLine.may_want s.system c.turn_lowest.new.self c.in_err-turn.field-0.0 c.in_err-turn.ensures.turns c.in_err-turn.ensures.memory))
