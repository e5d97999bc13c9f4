use Rattle.board_play.proofs.BoardsPlay.{plays_in_order}
use Rattle.board_play.proofs.orders.boards_play_is_ordered.Goals as goal

pub returns : goal.returns
returns c = record { law = plays_in_order }
