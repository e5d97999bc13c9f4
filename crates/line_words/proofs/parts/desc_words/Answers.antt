use Rattle.std.proofs.Common.{[], ap, ◌∙◌}
use Rattle.irq_base.specs.Cell.{Cell}
use Rattle.desc_state.specs.Desc.{DescSeen}
use Rattle.line_words.specs.Words.{marks_words}
use Rattle.line_words.proofs.parts.desc_words.Goals as goal

pub returns : goal.returns
returns c =
    let s = c.args.state.now.state in
    let cell = c.marks-cell.ensures.cell ∙ c.chip.ensures.cell in
    let of_cell : DescSeen → Cell → _ = λ d k. marks_words d k.stored k.sent k.high [] in
    c.marks_words.ensures ∙ (ap (λ (d : DescSeen). marks_words d c.marks-cell.result.stored c.marks-cell.result.sent
    c.marks-cell.result.high []) (c.marks.ensures ∙ c.desc.ensures)
    ∙ ap (of_cell s.desc) cell)
