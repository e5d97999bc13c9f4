use Rattle.state_search.specs.Growing.{AreNoted}
use Rattle.state_search.proofs.firsts.note.Given as goal

abbrev pub invariant-loop-i : goal.invariant-loop-i
invariant-loop-i g l = AreNoted g.L.PartialEq.eq l.place l.found l.i l.fn.firsts.items l.firsts.items
