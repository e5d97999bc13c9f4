use Rattle.std.proofs.Common.{refl}
use Rattle.std.proofs.lemmas.Result.{err_from_is_err_and}
use Rattle.board_report.proofs.Writing.{items_failed}
use Rattle.irq_explore.specs.SurveyTexts.{came_text}
use Rattle.irq_explore.proofs.Writing.{at_index}
use Rattle.irq_explore.proofs.printed_survey.print_rows.Goals as goal

pub returns-in_err-print_came-clause-content : goal.returns-in_err-print_came-clause-content
returns-in_err-print_came-clause-content g c =
    let sink = g.O.Sink.written in
    let p = err_from_is_err_and c.from_residual.result c.from_residual.ensures.1 in
    rw (p.1, p.2) (items_failed (came_text c.args.line) (sink c.args.out.now) (sink c.loop-i.out) (sink c.print_came.new.out)
    c.args.rows.now c.loop-i.i _ _ c.in_err-print_came.field-0.0
    (at_index c.args.rows.now c.loop-i.i _ c.loop-i-test.true) refl c.loop-i.invariant.content c.in_err-print_came.ensures.content)
