use Rattle.board_play.proofs.OneOrderedPlay.{one_play}
use Rattle.board_play.proofs.orders.ordered_play_is_one.Goals as goal

pub returns : goal.returns
returns g c = record { law = one_play }
