use Rattle.std.proofs.Common.{◌≡◌, List, []}
use Rattle.irq_base.specs.declared.entries.Actor.{Actor}
use Rattle.callbacks.specs.Heard.{Heard}
use Rattle.irq_chained.specs.Runs.{runs_in}
use Rattle.irq_chained.specs.Turned.{IsUnderway}
use Rattle.irq_chained.proofs.Playing.{measure}
use Rattle.irq_chained.proofs.demux.Demux.settle.Given as goal

abbrev pub invariant-loop : goal.invariant-loop
invariant-loop g l = record {
  board : l.self.board ≡ l.fn.self.board;
  layout : l.self.layout ≡ l.fn.self.layout;
  underway : (picks : List Actor) → IsUnderway l.fn.self picks [] → IsUnderway l.self picks [];
  heard : (first : g.row.H.Denot) → Heard g.H.Handler.hears (runs_in l.fn.self) first l.fn.handlers
      → Heard g.H.Handler.hears (runs_in l.self) first l.handlers;
}

abbrev pub decreases-loop : goal.decreases-loop
decreases-loop g l = measure l.self
