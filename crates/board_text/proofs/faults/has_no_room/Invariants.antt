use Rattle.std.proofs.Common.{◌≡◌, ◌+◌, nat_lt, drop}
use Rattle.board_stated.specs.FaultsAfter.{count_of_picks}
use Rattle.board_text.proofs.faults.has_no_room.Given as goal

abbrev pub invariant-loop-i : goal.invariant-loop-i
invariant-loop-i l = nat_lt 65536 (l.len + count_of_picks l.picks) ≡ nat_lt l.room (count_of_picks (drop l.i l.picks))
