use Rattle.std.proofs.Common.{◌≡◌, ◌++◌, replicate}
use Rattle.board_text.proofs.adding.add_told_times.Given as goal

abbrev pub invariant-loop-i : goal.invariant-loop-i
invariant-loop-i l = l.rows.items ≡ l.fn.rows.items ++ replicate l.i l.row
