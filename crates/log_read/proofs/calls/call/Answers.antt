use Rattle.log_read.proofs.CallKinds.{call_from}
use Rattle.log_read.proofs.calls.call.Goals as goal

pub returns : goal.returns
returns c = call_from c.args.word.now c.args.words.now _ _ c.call_verb_of.result c.fit-verb.result _
    c.call_verb_of.ensures c.fit-verb.ensures c.call_behind.ensures
