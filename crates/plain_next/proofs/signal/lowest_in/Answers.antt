use Rattle.std.proofs.Common.{◌∙◌, sym}
use Rattle.irq_model.proofs.Lowest.{lowest_past}
use Rattle.plain_next.proofs.signal.lowest_in.Goals as goal

pub loop-c-preserved : goal.loop-c-preserved
loop-c-preserved c = c.loop-c.invariant ∙ lowest_past c.args.mask c.loop-c.c c.args.cpus c.loop-c-test.true (sym c.if-is_in_mask.ensures)
