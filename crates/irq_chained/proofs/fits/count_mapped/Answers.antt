use Rattle.std.proofs.Common.{arith}
use Rattle.domain_rules.specs.Layout.{count_of_mapped}
use Rattle.irq_chained.proofs.FitsLaws.{count_next, here_most}
use Rattle.irq_chained.proofs.fits.count_mapped.Goals as goal

pub loop-i-preserved : goal.loop-i-preserved
loop-i-preserved c = record {
  so_far = count_next c.args.layout.now c.loop-i.i (count_of_mapped c.args.layout.now) c.loop-i.count
      c.mapped_at-count.result (omega (arith, c.loop-i-test.true, c.len-i-end.ensures)) c.loop-i.invariant.so_far
      c.mapped_at-count.ensures;
  most = let one = here_most c.args.layout.now c.loop-i.i c.mapped_at-count.result c.mapped_at-count.ensures in omega (arith, one, c.loop-i.invariant.most);
}
