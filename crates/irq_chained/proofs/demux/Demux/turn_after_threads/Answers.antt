use Rattle.std.proofs.Common.{◌≡◌, ◌∙◌, ap, subst, sym, None, Option, Ok, Err, Result}
use Rattle.irq_base.specs.declared.entries.Actor.TheVariants as actors
use Rattle.irq_line.specs.declared.answers.StepRefused.{StepRefused}
use Rattle.callbacks.specs.Heard.{Heard}
use Rattle.irq_chained.specs.Chain.{cpu_0, or_step}
use Rattle.irq_chained.specs.Runs.{runs_by_turn}
use Rattle.irq_chained.specs.Seen.{DemuxSeen}
use Rattle.irq_chained.specs.Turned.{TurnsBy, lowest_driver_of, lowest_of, next_of}
use Rattle.irq_chained.specs.declared.chain.ChainEntry.{ChainEntry}
use Rattle.irq_chained.specs.declared.chain.ChainTurn.{ChainTurn}
use Rattle.irq_chained.specs.declared.chain.ChainTurn.TheVariants as turns
use Rattle.board_core.proofs.Handing.{handed_on}
use Rattle.irq_chained.proofs.Hearing.{heard_after}
use Rattle.irq_chained.proofs.Lowest.{lowest_turn}
use Rattle.irq_chained.proofs.Playing.{a_turn, answered}
use Rattle.irq_chained.proofs.Wanting.{cpu_0_lowest, driver_lowest}
use Rattle.irq_chained.proofs.demux.Demux.turn_after_threads.Given as given
use Rattle.irq_chained.proofs.demux.Demux.turn_after_threads.Goals as goal
use Rattle.irq_chained.proofs.demux.Demux.turn_after_threads.Goals.{After-turn_cpu_0, In-NotYet}

-- processor 0 has no step
rests : (g : given.Over) (c : In-NotYet g) → (next_of c.args.self.now (actors.Cpu cpu_0) ≡ None) × (c.turn_cpu_0.new.self ≡ c.args.self.now)
rests g c = answered (a_turn c.turn_cpu_0.result c.turn_cpu_0.ensures.turns) (Ok turns.NotYet) (c.in_ok-moved.was ∙ ap Ok c.in-NotYet.is)

-- another answer of processor 0 is that of the lowest
first : (g : given.Over) (c : After-turn_cpu_0 g) (turn : Result ChainTurn StepRefused) → c.turn_cpu_0.result ≡ turn → (turn ≡ Ok turns.NotYet → ⊥)
    → TurnsBy c.args.self.now (lowest_of c.args.self.now) turn c.turn_cpu_0.new.self
first g c turn is not =
    let d = c.args.self.now in
    let due = next_of d (actors.Cpu cpu_0) in
    subst (λ (o : Option ChainEntry). TurnsBy d o turn c.turn_cpu_0.new.self) (sym c.requires)
    (lowest_turn d c.turn_cpu_0.new.self due (lowest_driver_of d) turn (answered (a_turn c.turn_cpu_0.result c.turn_cpu_0.ensures.turns) turn is) not)

pub returns-in-NotYet-clause-turns : goal.returns-in-NotYet-clause-turns
returns-in-NotYet-clause-turns g c =
    let d = c.args.self.now in
    let none = rests g (goal.at.returns-in-NotYet-clause-turns g c).In-NotYet in
    let is : lowest_of d ≡ lowest_driver_of d = c.requires ∙ ap (λ (o : Option ChainEntry). or_step o (lowest_driver_of d)) none.0 in
    let t = subst (λ (x : DemuxSeen). TurnsBy x (lowest_driver_of x) c.turn_lowest_driver.result
    c.turn_lowest_driver.new.self) none.1 c.turn_lowest_driver.ensures.turns in
    subst (λ (o : Option ChainEntry). TurnsBy d o c.turn_lowest_driver.result c.turn_lowest_driver.new.self) (sym is) t

pub returns-in_default-clause-turns : goal.returns-in_default-clause-turns
returns-in_default-clause-turns g c =
    first g (goal.at.returns-in_default-clause-turns g c).After-turn_cpu_0 (Ok c.in_ok-moved.moved) c.in_ok-moved.was
    (λ bad. c.in_default.not-NotYet cc)

pub returns-in_err-moved-clause-turns : goal.returns-in_err-moved-clause-turns
returns-in_err-moved-clause-turns g c = rw (handed_on c.from_residual.ensures.1)
    (first g (goal.at.returns-in_err-moved-clause-turns g c).After-turn_cpu_0 (Err c.in_err-moved.field-0.0) c.in_err-moved.was (λ bad. cc))

pub returns-in-NotYet-clause-heard : goal.returns-in-NotYet-clause-heard
returns-in-NotYet-clause-heard g c =
    heard_after g.H.Handler.hears c.turn_lowest_driver.result (rests g (goal.at.returns-in-NotYet-clause-heard g c).In-NotYet).1 _ _ _
    (subst (λ (t : ChainTurn). Heard g.H.Handler.hears (runs_by_turn c.args.self.now (Ok t)) c.args.handlers.now c.turn_cpu_0.new.handlers)
    c.in-NotYet.is c.in_ok-moved.ensures.heard)
    c.turn_lowest_driver.ensures.heard

pub returns-in-NotYet-clause-memory : goal.returns-in-NotYet-clause-memory
returns-in-NotYet-clause-memory g c =
    let none = rests g (goal.at.returns-in-NotYet-clause-memory g c).In-NotYet in
    driver_lowest g.L.IrqLine.may_want c.args.self.now c.turn_cpu_0.new.self c.turn_lowest_driver.result
    c.requires none.0 none.1 c.turn_lowest_driver.ensures.memory

pub returns-in_err-moved-clause-memory : goal.returns-in_err-moved-clause-memory
returns-in_err-moved-clause-memory g c = rw (handed_on c.from_residual.ensures.1)
    (cpu_0_lowest g.L.IrqLine.may_want c.args.self.now _ c.requires c.in_err-moved.ensures.memory)
