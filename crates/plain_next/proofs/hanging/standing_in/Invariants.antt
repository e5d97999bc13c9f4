use Rattle.std.proofs.Common.{◌≡◌, ◌++◌, drop, filter}
use Rattle.plain_next.specs.Hanging.{all_in_way, stands_in, want_of}
use Rattle.plain_next.proofs.hanging.standing_in.Given as goal

abbrev pub invariant-loop-actor : goal.invariant-loop-actor
invariant-loop-actor l = filter (stands_in l.def l.past (want_of l.want)) (all_in_way l.def l.past)
    ≡ l.found.items ++ filter (stands_in l.def l.past (want_of l.want)) (drop l.actor-index (all_in_way l.def l.past))
