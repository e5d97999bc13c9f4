use Rattle.irq_pm.specs.Phases.{Asleep}
use Rattle.irq_sleeper.specs.Hearing.{HearsOn}
use Rattle.irq_sleeper.specs.Steps.{GoesTo}
use Rattle.irq_sleeper.proofs.Underway.{room_of}
use Rattle.irq_sleeper.proofs.sleeper.Sleeper.sleep.Given as goal

abbrev pub invariant-loop-line : goal.invariant-loop-line
invariant-loop-line g l = record {
  goes : GoesTo l.fn.self l.self l.picks Asleep;
  heard : HearsOn g.H.Handler.hears l.fn.self l.fn.handlers l.self l.handlers;
}

abbrev pub decreases-loop-line : goal.decreases-loop-line
decreases-loop-line g l = room_of l.self.system
