use Rattle.board_play.proofs.Rest.{done_is_complete, done_is_settled, done_is_at_rest, done_is_delivered}
use Rattle.board_play.proofs.done_is_settled.Goals as goal

pub returns : goal.returns
returns c = record { complete = done_is_complete; settled = done_is_settled; at_rest = done_is_at_rest; delivered = done_is_delivered }
