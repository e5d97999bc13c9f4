use Rattle.std.proofs.Common.{◌≡◌, Ok}
use Rattle.board_core.specs.Turns.{Turns}
use Rattle.board_core.specs.declared.turns.Turn.TheVariants as turns
use Rattle.explore_picks.proofs.playing.turn_of.Given as goal

abbrev pub invariant-loop-other : goal.invariant-loop-other
invariant-loop-other g l = record {
  turns : Turns l.fn.system l.actor (Ok turns.NotYet) l.system;
  unheard : l.fn.handlers ≡ l.handlers;
}
