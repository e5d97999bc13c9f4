use Rattle.std.proofs.Common.{◌≡◌, length}
use Rattle.board_core.specs.Pieces.{EndsPiece}
use Rattle.board_core.specs.Settled.{SettlesLines}
use Rattle.board_core.proofs.Room.{room_of}
use Rattle.board_core.proofs.system.System.settle_lines.Given as goal

abbrev pub invariant-loop-self : goal.invariant-loop-self
invariant-loop-self g l = record {
  board : l.self.board ≡ l.fn.self.board;
  layout : l.self.layout ≡ l.fn.self.layout;
  settles : SettlesLines g.H.Handler.hears l.fn.self l.self l.fn.handlers l.handlers;
  within : EndsPiece (length l.self.log) → ⊥;
}

abbrev pub decreases-loop-self : goal.decreases-loop-self
decreases-loop-self g l = room_of l.self
