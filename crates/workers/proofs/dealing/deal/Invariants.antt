use Rattle.std.proofs.Common.{◌≡◌, map, take}
use Rattle.workers.proofs.Dealt.{actor_of}
use Rattle.workers.proofs.dealing.deal.Given as goal

abbrev pub invariant-loop-i : goal.invariant-loop-i
invariant-loop-i g l = map actor_of l.hands.items ≡ take l.i l.crew

abbrev pub invariant-loop-i-2 : goal.invariant-loop-i-2
invariant-loop-i-2 g l = l.dealt.items ≡ take l.i (map actor_of l.hands.items)
