use Rattle.log_read.proofs.Saying.{opened_takes}
use Rattle.log_read.proofs.said.opened.Goals as goal

pub returns : goal.returns
returns c = opened_takes c.args.words.now _ _ c.opened_as-opening.result _ c.opened_as-opening.ensures c.opened_behind.ensures
