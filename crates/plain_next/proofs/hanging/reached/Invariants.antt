use Rattle.plain_next.proofs.Reaching.{IsOnWay, left_over}
use Rattle.plain_next.proofs.hanging.reached.Given as goal

abbrev pub invariant-loop-looked : goal.invariant-loop-looked
invariant-loop-looked l = IsOnWay l.def l.past l.fn.actor l.found.items l.looked

abbrev pub decreases-loop-looked : goal.decreases-loop-looked
decreases-loop-looked l = left_over l.def l.past l.found.items l.looked
