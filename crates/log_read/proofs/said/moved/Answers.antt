use Rattle.log_read.proofs.Saying.{moved_takes}
use Rattle.log_read.proofs.said.moved.Goals as goal

pub returns : goal.returns
returns c = moved_takes c.args.words.now _ _ c.moved_as-moving.result _ c.moved_as-moving.ensures c.moved_behind.ensures
