use Rattle.std.proofs.Common.{length, ◌-◌, ◌≡◌, ◌≤◌, reverse, take}
use Rattle.board_core.specs.Runs.{runs_of}
use Rattle.board_def.specs.Rules.{IsBoard}
use Rattle.callbacks.specs.Heard.{Heard}
use Rattle.explore_picks.specs.Made.{IsAlone, IsMade}
use Rattle.explore_picks.proofs.playing.play_to.Given as goal

abbrev pub invariant-loop-made : goal.invariant-loop-made
invariant-loop-made g l = record {
  board : l.system.board ≡ l.fn.system.board;
  layout : l.system.layout ≡ l.fn.system.layout;
  is_board : IsBoard l.fn.system.board;
  made : IsMade l.system l.picks.items l.line (take l.made l.wanted);
  heard : Heard g.H.Handler.hears (runs_of l.system.board (reverse l.system.log)) l.fn.handlers l.handlers;
  few : length l.picks.items ≤ 65536;
  within : l.made ≤ length l.wanted;
  alone : IsAlone l.fn.system.board l.line l.wanted → length l.picks.items ≡ l.made;
}

abbrev pub decreases-loop-made : goal.decreases-loop-made
decreases-loop-made g l = 65536 - length l.picks.items
