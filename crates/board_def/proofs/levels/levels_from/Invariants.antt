use Rattle.std.proofs.Common.{◌≡◌, ◌-◌, ◌≤◌}
use Rattle.domain_rules.specs.Paths.{kinds_from}
use Rattle.board_def.specs.Unnamed.{defs_of}
use Rattle.board_def.proofs.Walks.{passed, none_passed, left_of_way}
use Rattle.board_def.proofs.levels.levels_from.Given as goal

abbrev pub invariant-loop-levels : goal.invariant-loop-levels
invariant-loop-levels l = record {
  few : l.levels.count ≤ 8;
  passed : passed l.levels (left_of_way (8 - l.levels.count) (defs_of l.board.domains) l.at)
      ≡ passed none_passed (kinds_from (defs_of l.board.domains) l.fn.from);
}

abbrev pub decreases-loop-levels : goal.decreases-loop-levels
decreases-loop-levels l = 8 - l.levels.count
