use Rattle.std.proofs.Common.{rules}
use Rattle.log_text.specs.Formed.{IsSmall}
use Rattle.log_read.proofs.EachKind.{thread_own, thread_call}
use Rattle.log_read.proofs.entries.by_thread.Goals as goal

pub returns-in-Some : goal.returns-in-Some
returns-in-Some c =
    let small : IsSmall c.args.dev.0 = search rules in
    thread_own c.args.words.now _ _ c.next-word.result.now c.next-word.ensures c.args.dev small c.in-Some.verb c.in-Some.ensures.1 _ c.thread_entry.ensures

pub returns-in-None : goal.returns-in-None
returns-in-None c =
    let small : IsSmall c.args.dev.0 = search rules in
    thread_call c.args.words.now _ _ c.next-word.result.now c.next-word.ensures c.args.dev small c.in-None.ensures _ c.call.ensures
