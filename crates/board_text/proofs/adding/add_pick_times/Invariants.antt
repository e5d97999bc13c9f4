use Rattle.std.proofs.Common.{◌≡◌, ◌++◌, replicate}
use Rattle.board_text.proofs.adding.add_pick_times.Given as goal

abbrev pub invariant-loop-i : goal.invariant-loop-i
invariant-loop-i l = l.board ≡ record l.fn.board { picks = l.fn.board.picks ++ replicate l.i l.actor }
