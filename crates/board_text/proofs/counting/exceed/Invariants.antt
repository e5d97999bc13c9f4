use Rattle.std.proofs.Common.{◌≡◌, ◌+◌, nat_lt, drop}
use Rattle.board_stated.specs.FaultsAfter.{count_of_answers}
use Rattle.board_text.proofs.counting.exceed.Given as goal

abbrev pub invariant-loop-i : goal.invariant-loop-i
invariant-loop-i l = nat_lt l.most (l.len + count_of_answers l.answers) ≡ nat_lt l.room (count_of_answers (drop l.i l.answers))
