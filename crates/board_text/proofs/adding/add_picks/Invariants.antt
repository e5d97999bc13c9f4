use Rattle.std.proofs.Common.{◌≡◌, ◌++◌, drop}
use Rattle.std.specs.List.{flat_map}
use Rattle.board_stated.specs.Stated.{actors_picked}
use Rattle.board_text.proofs.adding.add_picks.Given as goal

abbrev pub invariant-loop-i : goal.invariant-loop-i
invariant-loop-i l = record {
  same : l.board ≡ record l.fn.board { picks = l.board.picks };
  left : l.board.picks ++ flat_map actors_picked (drop l.i l.picks)
      ≡ l.fn.board.picks ++ flat_map actors_picked l.picks;
}
