use Rattle.irq_pm.specs.Phases.{Disabling}
use Rattle.irq_sleeper.specs.Hearing.{HearsOn}
use Rattle.irq_sleeper.specs.Steps.{GoesTo}
use Rattle.irq_sleeper.proofs.Underway.{room_of}
use Rattle.irq_sleeper.proofs.sleeper.Sleeper.suspend.Given as goal

abbrev pub invariant-loop-self : goal.invariant-loop-self
invariant-loop-self g l = record {
  goes : GoesTo l.fn.self l.self l.picks Disabling;
  heard : HearsOn g.H.Handler.hears l.fn.self l.fn.handlers l.self l.handlers;
}

abbrev pub decreases-loop-self : goal.decreases-loop-self
decreases-loop-self g l = room_of l.self.system
