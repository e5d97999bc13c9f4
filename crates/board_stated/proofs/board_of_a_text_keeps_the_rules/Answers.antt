use Rattle.board_stated.proofs.Kept.{text_is_board}
use Rattle.board_stated.proofs.board_of_a_text_keeps_the_rules.Goals as goal

pub returns : goal.returns
returns c = text_is_board
