use Rattle.std.proofs.Common.{arith}
use Rattle.plain_next.proofs.EdgeWalk.{opened_more}
use Rattle.plain_next.proofs.edges.was_open.Goals as goal

pub loop-i-preserved : goal.loop-i-preserved
loop-i-preserved c =
    opened_more c.args.def.now c.args.past.now c.args.place c.loop-i.i c.loop-i.opened _ c.loop-i-test.true c.loop-i.auto.i c.requires.place c.loop-i.invariant
    (c.requires.table.each _ (omega arith))
