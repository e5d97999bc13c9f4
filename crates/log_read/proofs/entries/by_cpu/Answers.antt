use Rattle.std.proofs.Common.{rules}
use Rattle.log_text.specs.Formed.{IsSmall}
use Rattle.log_read.proofs.EachKind.{cpu_own, cpu_call}
use Rattle.log_read.proofs.entries.by_cpu.Goals as goal

pub returns-in-Some : goal.returns-in-Some
returns-in-Some c =
    let small : IsSmall c.args.cpu.0 = search rules in
    cpu_own c.args.words.now _ _ c.next-word.result.now c.next-word.ensures c.args.cpu small c.in-Some.verb c.in-Some.ensures.1 _ c.cpu_entry.ensures

pub returns-in-None : goal.returns-in-None
returns-in-None c =
    let small : IsSmall c.args.cpu.0 = search rules in
    cpu_call c.args.words.now _ _ c.next-word.result.now c.next-word.ensures c.args.cpu small c.in-None.ensures _ c.call.ensures
