use Rattle.std.proofs.Common.{drop}
use Rattle.irq_pm.specs.Phases.{Picking}
use Rattle.irq_sleeper.specs.Hearing.{HearsOn}
use Rattle.irq_sleeper.specs.Steps.{GoesTo}
use Rattle.irq_sleeper.proofs.sleeper.Sleeper.make_picks.Given as goal

abbrev pub invariant-loop-pick : goal.invariant-loop-pick
invariant-loop-pick g l = record {
  goes : GoesTo l.fn.self l.self l.picks (Picking (drop l.pick-index l.picks));
  heard : HearsOn g.H.Handler.hears l.fn.self l.fn.handlers l.self l.handlers;
}
