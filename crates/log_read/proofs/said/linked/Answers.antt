use Rattle.log_read.proofs.Saying.{linked_takes}
use Rattle.log_read.proofs.said.linked.Goals as goal

pub returns : goal.returns
returns c = linked_takes c.args.words.now _ _ c.linked_as-linking.result _ c.linked_as-linking.ensures c.linked_behind.ensures
