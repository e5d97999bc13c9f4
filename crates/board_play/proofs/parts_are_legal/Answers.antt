use Rattle.board_play.proofs.KeptAlways.{parts_are_legal}
use Rattle.board_play.proofs.Parts.{others_have_none}
use Rattle.board_play.proofs.parts_are_legal.Goals as goal

pub returns : goal.returns
returns c = record { law = parts_are_legal; others = others_have_none }
