use Rattle.std.proofs.Common.{◌≡◌, drop, reverse}
use Rattle.plain_next.proofs.next.newest_first.Given as goal

abbrev pub invariant-loop-i : goal.invariant-loop-i
invariant-loop-i l = l.past.items ≡ reverse (drop l.i l.history.entries)
