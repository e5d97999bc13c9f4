use Rattle.std.proofs.Common.{◌≡◌, List, []}
use Rattle.irq_base.specs.declared.entries.Actor.{Actor}
use Rattle.callbacks.specs.Heard.{Heard}
use Rattle.board_core.specs.Playing.{IsUnderway, Settles}
use Rattle.board_core.specs.Runs.{runs_since}
use Rattle.board_core.proofs.Room.{room_of}
use Rattle.board_core.proofs.system.System.settle.Given as goal

abbrev pub invariant-loop : goal.invariant-loop
invariant-loop g l = record {
  board : l.self.board ≡ l.fn.self.board;
  layout : l.self.layout ≡ l.fn.self.layout;
  underway : (picks : List Actor) → IsUnderway l.fn.self picks [] → IsUnderway l.self picks [];
  moves : Settles l.fn.self l.self;
  heard : Heard g.H.Handler.hears (runs_since l.fn.self l.self) l.fn.handlers l.handlers;
}

abbrev pub decreases-loop : goal.decreases-loop
decreases-loop g l = room_of l.self
