use Rattle.board_play.proofs.OnePlay.{play_is_one}
use Rattle.board_play.proofs.play_is_one.Goals as goal

pub returns : goal.returns
returns c = record { law = play_is_one }
