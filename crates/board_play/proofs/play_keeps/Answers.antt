use Rattle.board_play.proofs.KeptAlways.{move_keeps, play_keeps}
use Rattle.board_play.proofs.play_keeps.Goals as goal

pub returns : goal.returns
returns c = record { step = move_keeps; law = play_keeps }
