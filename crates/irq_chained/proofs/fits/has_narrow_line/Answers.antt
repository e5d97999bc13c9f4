use Rattle.std.proofs.Common.{◌∙◌, sym, ap}
use Rattle.irq_chained.proofs.FitsLaws.{any_here, any_later}
use Rattle.irq_chained.specs.Fits.{leaves_out}
use Rattle.irq_chained.proofs.fits.has_narrow_line.Goals as goal

pub returns-then-leaves_out : goal.returns-then-leaves_out
returns-then-leaves_out c =
    any_here (leaves_out c.args.board.now.cpus) c.args.board.now.lines c.loop-i.i c.in-Some.row (sym c.in-Some.ensures)
    c.loop-i.invariant (ap (λ n. leaves_out n c.in-Some.row) (sym c.cpus.ensures)
    ∙ (sym c.leaves_out.ensures ∙ c.if-leaves_out.true))

pub loop-i-preserved : goal.loop-i-preserved
loop-i-preserved c =
    any_later (leaves_out c.args.board.now.cpus) c.args.board.now.lines c.loop-i.i c.in-Some.row (sym c.in-Some.ensures)
    c.loop-i.invariant (ap (λ n. leaves_out n c.in-Some.row) (sym c.cpus.ensures)
    ∙ (sym c.leaves_out.ensures ∙ c.if-leaves_out.false))
