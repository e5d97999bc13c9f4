use Rattle.std.proofs.Common.{All, length}
use Rattle.explore_picks.specs.Small.{HasSmallMove}
use Rattle.explore_picks.proofs.small.are_small.Given as goal

abbrev pub invariant-loop-line : goal.invariant-loop-line
invariant-loop-line g l = All HasSmallMove l.moves → All HasSmallMove l.fn.moves

abbrev pub decreases-loop-line : goal.decreases-loop-line
decreases-loop-line g l = length l.moves
