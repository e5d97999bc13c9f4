use Rattle.board_play.proofs.Standstill.{unwaiting_boards_settle}
use Rattle.board_play.proofs.unwaiting_boards_settle.Goals as goal

pub returns : goal.returns
returns c = record { law = unwaiting_boards_settle }
