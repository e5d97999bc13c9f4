use Rattle.std.proofs.Common.{Some, refl, sym, ap, ◌∙◌}
use Rattle.std.proofs.lemmas.Result.{err_from_is_err_and}
use Rattle.board_report.proofs.Writing.{items_done, items_failed}
use Rattle.irq_explore.specs.Surveyed.{line_text}
use Rattle.irq_explore.specs.declared.surveying.LineSurvey.{LineSurvey}
use Rattle.irq_explore.proofs.ByIndex.{at_index}
use Rattle.irq_explore.proofs.survey_printing.print_lines.Goals as goal

pub returns-in_err-print_line-clause-content : goal.returns-in_err-print_line-clause-content
returns-in_err-print_line-clause-content g c =
    let sink = g.O.Sink.written in
    let survey = c.index-surveys-i.result in
    let p = err_from_is_err_and c.from_residual.result c.from_residual.ensures.1 in
    rw (p.1, p.2) (items_failed line_text (sink c.args.out.now) (sink c.loop-i.out) (sink c.print_line.new.out)
    c.args.surveys.now c.loop-i.i survey (line_text survey) c.in_err-print_line.field-0.0
    (at_index c.args.surveys.now c.loop-i.i survey c.loop-i-test.true ∙ ap (λ (s : LineSurvey). Some s) (sym c.index-surveys-i.is)) refl
    c.loop-i.invariant.content c.in_err-print_line.ensures.content)

pub loop-i-preserved : goal.loop-i-preserved
loop-i-preserved g c =
    let sink = g.O.Sink.written in
    let survey = c.index-surveys-i.result in
    record {
      content =
          items_done line_text (sink c.args.out.now) (sink c.loop-i.out) (sink c.print_line.new.out)
          c.args.surveys.now c.loop-i.i survey (line_text survey)
          (at_index c.args.surveys.now c.loop-i.i survey c.loop-i-test.true ∙ ap (λ (s : LineSurvey). Some s) (sym c.index-surveys-i.is)) refl
          c.loop-i.invariant.content c.in_ok-print_line.ensures.content;
      faults = c.in_ok-print_line.ensures.cause ∙ c.loop-i.invariant.faults;
    }
