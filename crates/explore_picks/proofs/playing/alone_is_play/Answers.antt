use Rattle.explore_picks.proofs.Alone.{is_play}
use Rattle.explore_picks.proofs.playing.alone_is_play.Goals as goal

pub returns : goal.returns
returns c = record { law = λ board def past is_board only legal few. is_play def board is_board only past legal few }
