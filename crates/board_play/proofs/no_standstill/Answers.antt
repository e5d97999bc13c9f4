use Rattle.board_play.proofs.Rest.{scripts_are_complete, lines_are_settled, lines_are_at_rest}
use Rattle.board_play.proofs.no_standstill.Goals as goal

pub returns : goal.returns
returns c = record { complete = scripts_are_complete; settled = lines_are_settled; at_rest = lines_are_at_rest }
