use Rattle.std.proofs.Common.{◌≡◌, ◌≤◌, ◌+◌, ◌*◌, ◌++◌, codes, length, take}
use Rattle.std.specs.List.{flat_map}
use Rattle.explore_picks.specs.Rows.{pick_text}
use Rattle.explore_picks.proofs.picks.picks_row.Given as goal

abbrev pub invariant-loop-pick : goal.invariant-loop-pick
invariant-loop-pick l = record {
  text : l.row ≡ codes "# picks" ++ flat_map pick_text (take l.pick-index l.picks);
  short : length l.row ≤ 7 + 12 * l.pick-index;
}
