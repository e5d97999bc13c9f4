use Rattle.std.proofs.Common.{ℕ, List, ◌∙◌, subst}
use Rattle.program_io.specs.ErrorRows.{Tells}
use Rattle.irq_top.proofs.top.tell.Goals as goal

pub returns : goal.returns
returns g c =
    subst (λ (text : List ℕ). Tells text (g.E.Sink.written c.args.err.now) (g.E.Sink.written c.tell_row.new.err)
    (g.E.Sink.kept c.tell_row.new.err) (g.E.Sink.faults c.args.err.now) (g.E.Sink.faults c.tell_row.new.err))
    (c.bytes.ensures.bytes ∙ c.error_row.ensures) c.tell_row.ensures
