use Rattle.std.proofs.Common.{◌≡◌, ◌+◌, ◌*◌, ◌≤◌, ◌++◌, length, map, take}
use Rattle.log_text.specs.LayoutRows.{level_word}
use Rattle.log_text.specs.Spaced.{spaced}
use Rattle.log_text.proofs.layouts.push_levels.Given as goal

abbrev pub invariant-loop-i : goal.invariant-loop-i
invariant-loop-i l = record {
  text : l.row ≡ l.fn.row ++ spaced (map (level_word l.board.domains) (take l.i l.path));
  short : length l.row ≤ 64 + 28 * l.i;
}
