use Rattle.std.proofs.Common.{sym, ap, ◌∙◌, subst, ℕ, List, arith, Ok, Err}
use Rattle.std.proofs.lemmas.Result.{err_from_is_err_and}
use Rattle.std.specs.List.{flat_map}
use Rattle.std.proofs.lemmas.List.{take_all}
use Rattle.irq_io.specs.Whole.{WritesAll}
use Rattle.board_report.proofs.Summing.{report_row, rows_of_reports}
use Rattle.board_report.proofs.Writing.{items_done, items_failed}
use Rattle.board_report.proofs.summaries.print_summaries.Goals as goal

pub returns-in_err-write_all-clause-content : goal.returns-in_err-write_all-clause-content
returns-in_err-write_all-clause-content g c =
    let sink = g.O.Sink.written in
    let reports = c.args.reports.now.reports in
    let failed = c.in_err-write_all.field-0.0 in
    let p = err_from_is_err_and c.from_residual.result c.from_residual.ensures.1 in
    rw (p.1, p.2) (subst (λ (text : List ℕ). WritesAll (sink c.args.out.now) (sink c.write_all.new.sink) text (Err failed)) (rows_of_reports reports)
    (items_failed report_row (sink c.args.out.now) (sink c.loop-i.out) (sink c.write_all.new.sink) reports c.loop-i.i c.in-Some.report.now c.bytes.result.now
    failed (sym c.in-Some.ensures) (c.bytes.ensures.bytes ∙ c.summary_row.ensures) c.loop-i.invariant.content c.in_err-write_all.ensures.content))

pub loop-i-preserved : goal.loop-i-preserved
loop-i-preserved g c =
    let sink = g.O.Sink.written in
    record {
      content =
          items_done report_row (sink c.args.out.now) (sink c.loop-i.out) (sink c.write_all.new.sink)
          c.args.reports.now.reports c.loop-i.i c.in-Some.report.now c.bytes.result.now
          (sym c.in-Some.ensures) (c.bytes.ensures.bytes ∙ c.summary_row.ensures) c.loop-i.invariant.content c.in_ok-write_all.ensures.content;
      faults = c.in_ok-write_all.ensures.cause ∙ c.loop-i.invariant.faults;
    }

pub returns-clause-content : goal.returns-clause-content
returns-clause-content g c =
    let sink = g.O.Sink.written in
    let reports = c.args.reports.now.reports in
    subst (λ (text : List ℕ). WritesAll (sink c.args.out.now) (sink c.loop-i.out) text (Ok tt))
    (ap (flat_map report_row) (take_all c.loop-i.i reports (omega (arith, c.len-i-end.ensures, c.loop-i-test.false)))
    ∙ rows_of_reports reports) c.loop-i.invariant.content
