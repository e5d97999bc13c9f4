use Rattle.explore_picks.proofs.Beginning.{begins_each}
use Rattle.explore_picks.proofs.PickedMoves.{begins}
use Rattle.explore_picks.proofs.playing.picks_begin_the_play.Goals as goal

pub returns : goal.returns
returns c = record { law = begins; play = begins_each }
