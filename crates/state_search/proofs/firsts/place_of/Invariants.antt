use Rattle.state_search.proofs.Labels.{NoneBefore}
use Rattle.state_search.proofs.firsts.place_of.Given as goal

abbrev pub invariant-loop-first : goal.invariant-loop-first
invariant-loop-first g l = NoneBefore g.L.PartialEq.eq l.label l.firsts l.first-index
