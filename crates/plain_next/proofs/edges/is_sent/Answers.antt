use Rattle.std.proofs.Common.{sym, below_more}
use Rattle.plain_next.proofs.EdgeWalk.{sent_at, sent_nowhere}
use Rattle.plain_next.proofs.edges.is_sent.Goals as goal

pub returns-then-is_presented : goal.returns-then-is_presented
returns-then-is_presented c = sent_at c.args.def.now c.args.past.now c.loop-place.place c.loop-place-test.true c.if-is_presented.ensures

pub loop-place-preserved : goal.loop-place-preserved
loop-place-preserved c = below_more _ _ c.loop-place.invariant (sym c.if-is_presented.ensures)

pub returns : goal.returns
returns c = sent_nowhere c.args.def.now c.args.past.now c.loop-place.place c.loop-place-test.false c.loop-place.invariant
