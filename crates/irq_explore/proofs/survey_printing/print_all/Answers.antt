use Rattle.std.proofs.lemmas.Result.{err_from_is_err_and}
use Rattle.std.specs.List.{flat_map}
use Rattle.board_report.proofs.Writing.{and_then, failed_within}
use Rattle.log_text.specs.LayoutRows.{layout_rows}
use Rattle.irq_explore.specs.Surveyed.{line_text}
use Rattle.irq_explore.proofs.survey_printing.print_all.Goals as goal

pub returns-clause-content : goal.returns-clause-content
returns-clause-content g c =
    let sink = g.O.Sink.written in
    and_then (sink c.args.out.now) (sink c.print_layout.new.out) (sink c.print_lines.new.out) (layout_rows c.args.board.now)
    (flat_map line_text c.args.surveys.now) c.print_lines.result c.in_ok-print_layout.ensures.content c.print_lines.ensures.content

pub returns-in_err-print_layout-clause-content : goal.returns-in_err-print_layout-clause-content
returns-in_err-print_layout-clause-content g c =
    let sink = g.O.Sink.written in
    let p = err_from_is_err_and c.from_residual.result c.from_residual.ensures.1 in
    rw (p.1, p.2) (failed_within (sink c.args.out.now) (sink c.print_layout.new.out) (layout_rows c.args.board.now)
    (flat_map line_text c.args.surveys.now) c.in_err-print_layout.field-0.0 c.in_err-print_layout.ensures.content)
