use Rattle.board_ready.proofs.Lowest.{first_none}
use Rattle.board_ready.proofs.found.first_is_first.Goals as goal

pub returns-clause-none : goal.returns-clause-none
returns-clause-none c = first_none
