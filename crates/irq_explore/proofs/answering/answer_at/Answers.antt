use Rattle.std.proofs.Common.{List, Some, slice_get, sym, ap, ◌∙◌}
use Rattle.domain_rules.specs.declared.layouts.Placement.{Placement}
use Rattle.irq_explore.proofs.OfLine.{answered, answered_rows, def_at}
use Rattle.irq_explore.proofs.answering.answer_at.Goals as goal

pub returns-clause-answered : goal.returns-clause-answered
returns-clause-answered c =
    let placement = c.in-Some-Mapped in
    let placed = sym (placement.ensures ∙ ap (λ (l : List Placement). slice_get l c.args.place) c.in_ok-layout.ensures.layout)
    ∙ ap (λ (p : Placement). Some p) placement.field-0-is in
    let there = def_at c.args.board.now c.args.place c.in_ok-defs.defs.items c.index.result.now c.in_ok-defs.ensures.defs c.requires.line c.index.ensures in
    answered c.args.states c.args.board.now c.args.place placement.field-0-0 placement.field-0-1 placed c.index.result.now there
    c.args.wanted c.shortest.result c.shortest.ensures

pub returns-clause-rows : goal.returns-clause-rows
returns-clause-rows c = answered_rows c.args.states c.index.result.now c.args.wanted c.shortest.result c.shortest.ensures
