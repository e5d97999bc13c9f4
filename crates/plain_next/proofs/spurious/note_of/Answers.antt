use Rattle.std.proofs.Common.{arith}
use Rattle.plain_next.proofs.Counts.{within_length}
use Rattle.plain_next.proofs.spurious.note_of.Goals as goal

pub noted_end-requires-clause-count : goal.noted_end-requires-clause-count
noted_end-requires-clause-count c =
    let few = within_length c.args.def.now c.args.past.now c.counts_of.result c.counts_of.ensures in omega (arith, few.irq_count)

pub noted_end-requires-clause-unhandled : goal.noted_end-requires-clause-unhandled
noted_end-requires-clause-unhandled c =
    let few = within_length c.args.def.now c.args.past.now c.counts_of.result c.counts_of.ensures in omega (arith, few.irqs_unhandled)
