use Rattle.std.proofs.Common.{◌≡◌, drop}
use Rattle.callbacks.specs.Heard.{Heard}
use Rattle.irq_chained.specs.Runs.{runs_in}
use Rattle.irq_chained.specs.Turned.{IsUnderway}
use Rattle.irq_chained.proofs.demux.Demux.play.Given as goal

abbrev pub invariant-loop-pick : goal.invariant-loop-pick
invariant-loop-pick g l = record {
  board : l.self.board ≡ l.fn.self.board;
  layout : l.self.layout ≡ l.fn.self.layout;
  underway : IsUnderway l.self l.picks (drop l.pick-index l.picks);
  heard : Heard g.H.Handler.hears (runs_in l.self) l.fn.handlers l.handlers;
}
