use Rattle.std.proofs.Common.{◌∙◌}
use Rattle.std.proofs.lemmas.Result.{err_from_is_err_and}
use Rattle.board_report.proofs.Writing.{items_done, items_failed}
use Rattle.irq_explore.specs.SurveyTexts.{rest_text}
use Rattle.irq_explore.proofs.Writing.{at_index}
use Rattle.irq_explore.proofs.printed_survey.print_rests.Goals as goal

pub returns-in_err-write_all-clause-content : goal.returns-in_err-write_all-clause-content
returns-in_err-write_all-clause-content g c =
    let sink = g.O.Sink.written in
    let p = err_from_is_err_and c.from_residual.result c.from_residual.ensures.1 in
    rw (p.1, p.2) (items_failed (rest_text c.args.line) (sink c.args.out.now) (sink c.loop-i.out) (sink c.write_all.new.sink)
    c.args.rests.now c.loop-i.i _ c.bytes.result.now c.in_err-write_all.field-0.0 (at_index c.args.rests.now c.loop-i.i _ c.loop-i-test.true)
    (c.bytes.ensures.bytes ∙ c.rest_row.ensures) c.loop-i.invariant.content c.in_err-write_all.ensures.content)

pub loop-i-preserved : goal.loop-i-preserved
loop-i-preserved g c =
    let sink = g.O.Sink.written in
    record {
      content =
          items_done (rest_text c.args.line) (sink c.args.out.now) (sink c.loop-i.out) (sink c.write_all.new.sink)
          c.args.rests.now c.loop-i.i _ c.bytes.result.now (at_index c.args.rests.now c.loop-i.i _ c.loop-i-test.true)
          (c.bytes.ensures.bytes ∙ c.rest_row.ensures) c.loop-i.invariant.content c.in_ok-write_all.ensures.content;
      faults = c.in_ok-write_all.ensures.cause ∙ c.loop-i.invariant.faults;
    }
