use Rattle.explore_picks.proofs.Printable.{small_next}
use Rattle.explore_picks.proofs.small.are_small.Goals as goal

pub loop-line-preserved : goal.loop-line-preserved
loop-line-preserved g c = λ rest.
    c.loop-line.invariant (small_next c.loop-line.moves (c.in-Some.line, c.in-Some.entry) c.next.new.self
    c.in-Some.ensures.first c.in-Some.ensures.rest c.is_small.ensures rest)
