use Rattle.std.proofs.Common.{◌∙◌, sym, ap, not}
use Rattle.irq_model.specs.Lines.{is_in_mask}
use Rattle.irq_chained.proofs.FitsLaws.{first_later}
use Rattle.irq_chained.proofs.fits.leaves_out.Goals as goal

pub loop-cpu-preserved : goal.loop-cpu-preserved
loop-cpu-preserved c =
    first_later (λ p. not (is_in_mask c.args.row.now.mask p)) c.loop-cpu.cpu c.args.cpus _ c.loop-cpu-test.true
    c.loop-cpu.invariant (ap not (sym c.is_in_mask.ensures ∙ c.if-not-is_in_mask.false))
