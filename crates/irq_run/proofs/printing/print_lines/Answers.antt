use Rattle.std.proofs.Common.{sym, ap, ◌∙◌, subst, ℕ, List, refl, arith, Ok, Err}
use Rattle.std.specs.List.{flat_map}
use Rattle.std.proofs.lemmas.Result.{err_from_is_err_and}
use Rattle.std.proofs.lemmas.List.{take_all}
use Rattle.irq_io.specs.Whole.{WritesAll}
use Rattle.board_report.proofs.Writing.{items_done, items_failed}
use Rattle.board_report.specs.Rows.{HasRows}
use Rattle.irq_run.proofs.Rows.{all_at, report_rows, rows_of_reports}
use Rattle.irq_run.proofs.printing.print_lines.Goals as goal

pub print_history-requires : goal.print_history-requires
print_history-requires g c = all_at HasRows c.args.reports.now.reports c.loop-i.i c.in-Some.report.now c.requires (sym c.in-Some.ensures)

pub returns-in_err-print_history-clause-content : goal.returns-in_err-print_history-clause-content
returns-in_err-print_history-clause-content g c =
    let sink = g.O.Sink.written in
    let reports = c.args.reports.now.reports in
    let failed = c.in_err-print_history.field-0.0 in
    let p = err_from_is_err_and c.from_residual.result c.from_residual.ensures.1 in
    rw (p.1, p.2) (subst (λ (text : List ℕ). WritesAll (sink c.args.out.now) (sink c.print_history.new.out) text (Err failed)) (rows_of_reports reports)
    (items_failed report_rows (sink c.args.out.now) (sink c.loop-i.out) (sink c.print_history.new.out) reports
    c.loop-i.i c.in-Some.report.now (report_rows c.in-Some.report.now) failed
    (sym c.in-Some.ensures) refl c.loop-i.invariant.content c.in_err-print_history.ensures.content))

pub loop-i-preserved : goal.loop-i-preserved
loop-i-preserved g c =
    let sink = g.O.Sink.written in
    record {
      content =
          items_done report_rows (sink c.args.out.now) (sink c.loop-i.out) (sink c.print_history.new.out)
          c.args.reports.now.reports c.loop-i.i c.in-Some.report.now (report_rows c.in-Some.report.now)
          (sym c.in-Some.ensures) refl c.loop-i.invariant.content c.in_ok-print_history.ensures.content;
      faults = c.in_ok-print_history.ensures.cause ∙ c.loop-i.invariant.faults;
    }

pub returns-clause-content : goal.returns-clause-content
returns-clause-content g c =
    let sink = g.O.Sink.written in
    let reports = c.args.reports.now.reports in
    subst (λ (text : List ℕ). WritesAll (sink c.args.out.now) (sink c.loop-i.out) text (Ok tt))
    (ap (flat_map report_rows) (take_all c.loop-i.i reports (omega (arith, c.len-i-end.ensures, c.loop-i-test.false)))
    ∙ rows_of_reports reports) c.loop-i.invariant.content
