use Rattle.std.proofs.Common.{◌≡◌, ◌++◌, drop}
use Rattle.std.specs.List.{flat_map}
use Rattle.board_stated.specs.Stated.{answers_told}
use Rattle.board_text.proofs.adding.told_rows.Given as goal

abbrev pub invariant-loop-i : goal.invariant-loop-i
invariant-loop-i l = l.rows.items ++ flat_map (answers_told l.line l.dev l.part) (drop l.i l.answers) ≡ flat_map (answers_told l.line l.dev l.part) l.answers
