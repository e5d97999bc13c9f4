use Rattle.std.proofs.Common.{◌≡◌, drop, reverse}
use Rattle.callbacks.specs.Heard.{Heard}
use Rattle.board_core.specs.Playing.{IsUnderway}
use Rattle.board_core.specs.Runs.{runs_of}
use Rattle.board_core.proofs.system.System.play.Given as goal

abbrev pub invariant-loop-pick : goal.invariant-loop-pick
invariant-loop-pick g l = record {
  board : l.self.board ≡ l.fn.self.board;
  layout : l.self.layout ≡ l.fn.self.layout;
  underway : IsUnderway l.self l.picks (drop l.pick-index l.picks);
  heard : Heard g.H.Handler.hears (runs_of l.self.board (reverse l.self.log)) l.fn.handlers l.handlers;
}
