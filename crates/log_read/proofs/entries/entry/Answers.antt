use Rattle.log_read.proofs.EachKind.{entry_takes}
use Rattle.log_read.proofs.entries.entry.Goals as goal

pub returns : goal.returns
returns c = entry_takes c.args.words.now _ _ c.made_by-actor.result _ c.made_by-actor.ensures c.entry_by.ensures
