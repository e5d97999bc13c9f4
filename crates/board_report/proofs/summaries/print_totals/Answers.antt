use Rattle.std.proofs.Common.{ap, ◌∙◌, subst, ℕ, List, map}
use Rattle.std.proofs.lemmas.Result.{err_from_is_err_and}
use Rattle.irq_io.specs.Whole.{WritesAll}
use Rattle.log_summary.specs.Texts.{total_text}
use Rattle.board_report.specs.Headline.{told_by}
use Rattle.board_report.specs.Totals.{count_of_entries, summaries_text}
use Rattle.board_report.proofs.Writing.{and_then, failed_within}
use Rattle.board_report.proofs.summaries.print_totals.Goals as goal

pub returns-clause-content : goal.returns-clause-content
returns-clause-content g c =
    let sink = g.O.Sink.written in
    let histories = map told_by c.args.reports.now.reports in
    and_then (sink c.args.out.now) (sink c.print_summaries.new.out) (sink c.write_all.new.sink)
    (summaries_text histories) (total_text (count_of_entries histories)) c.write_all.result
    c.in_ok-print_summaries.ensures.content
    (subst (λ (text : List ℕ). WritesAll (sink c.print_summaries.new.out) (sink c.write_all.new.sink) text c.write_all.result)
    (c.bytes.ensures.bytes ∙ (c.total_row.ensures ∙ ap total_text c.count_entries.ensures)) c.write_all.ensures.content)

pub returns-in_err-print_summaries-clause-content : goal.returns-in_err-print_summaries-clause-content
returns-in_err-print_summaries-clause-content g c =
    let sink = g.O.Sink.written in
    let histories = map told_by c.args.reports.now.reports in
    let p = err_from_is_err_and c.from_residual.result c.from_residual.ensures.1 in
    rw (p.1, p.2) (failed_within (sink c.args.out.now) (sink c.print_summaries.new.out) (summaries_text histories)
    (total_text (count_of_entries histories)) c.in_err-print_summaries.field-0.0 c.in_err-print_summaries.ensures.content)
