use Rattle.std.proofs.Common.{arith}
use Rattle.plain_next.proofs.Counts.{within_length}
use Rattle.plain_next.proofs.spurious.counts_after.Goals as goal

pub one_more_handled-requires : goal.one_more_handled-requires
one_more_handled-requires c =
    let few = within_length c.args.def.now c.args.past.now c.args.kept c.requires.counts in omega (arith, few.threads_handled)

pub noted_end-requires-clause-count : goal.noted_end-requires-clause-count
noted_end-requires-clause-count c =
    let few = within_length c.args.def.now c.args.past.now c.args.kept c.requires.counts in omega (arith, few.irq_count)

pub noted_end-requires-clause-unhandled : goal.noted_end-requires-clause-unhandled
noted_end-requires-clause-unhandled c =
    let few = within_length c.args.def.now c.args.past.now c.args.kept c.requires.counts in omega (arith, few.irqs_unhandled)
