use Rattle.log_read.proofs.Saying.{enabled_takes}
use Rattle.log_read.proofs.said.enabled.Goals as goal

pub returns : goal.returns
returns c = enabled_takes c.args.words.now _ _ c.opened_as-opening.result _ c.opened_as-opening.ensures c.enabled_behind.ensures
