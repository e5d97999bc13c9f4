use Rattle.std.proofs.Common.{◌≡◌, ℕ, ◌≤◌, length}
use Rattle.std.specs.List.{slice_get}
use Rattle.board_def.specs.LineOf.{line_defs_of}
use Rattle.log_check.proofs.NewJudges.{AreMade}
use Rattle.log_check.proofs.making.make_judges.Given as goal

-- the judges so far are made, and the definitions from there on are as they were
abbrev pub invariant-loop-i : goal.invariant-loop-i
invariant-loop-i g l = record {
  made : AreMade l.board l.i l.judges.items;
  many : length l.defs.items ≡ length (line_defs_of l.board);
  left : (j : ℕ) → l.i ≤ j → slice_get l.defs.items j ≡ slice_get (line_defs_of l.board) j;
}
