use Rattle.irq_pm.specs.Phases.{Going}
use Rattle.irq_sleeper.specs.Hearing.{HearsOn}
use Rattle.irq_sleeper.specs.Steps.{GoesTo}
use Rattle.irq_sleeper.proofs.Underway.{room_of}
use Rattle.irq_sleeper.proofs.sleeper.Sleeper.go_on.Given as goal

abbrev pub invariant-loop : goal.invariant-loop
invariant-loop g l = record {
  goes : GoesTo l.fn.self l.self l.picks Going;
  heard : HearsOn g.H.Handler.hears l.fn.self l.fn.handlers l.self l.handlers;
}

abbrev pub decreases-loop : goal.decreases-loop
decreases-loop g l = room_of l.self.system
