use Rattle.std.proofs.Common.{Option, ap, sym, ◌∙◌}
use Rattle.irq_base.specs.declared.numbers.LineNo.{LineNo}
use Rattle.irq_explore.specs.Surveyed.{has_asked}
use Rattle.irq_explore.proofs.Said.{is_there}
use Rattle.irq_explore.proofs.exploring.has_asked.Goals as goal

pub returns-in-Some : goal.returns-in-Some
returns-in-Some c =
    c.is_some.ensures ∙ (is_there c.args.board.now c.in-Some.line c.place_of.result c.place_of.ensures
    ∙ ap (λ (o : Option LineNo). has_asked c.args.board.now o) (sym c.in-Some.is))
