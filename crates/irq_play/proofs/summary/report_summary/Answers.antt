use Rattle.std.proofs.Common.{Result, ◌++◌, map, sym, subst}
use Rattle.board_core.specs.declared.ends.PlayEnd.{PlayEnd}
use Rattle.board_report.specs.Headline.{told_by}
use Rattle.board_report.specs.Totals.{totals_text}
use Rattle.log_text.specs.LayoutRows.{layout_rows}
use Rattle.irq_play.proofs.Told.{summed}
use Rattle.play_report.proofs.Answered.{prints_more, prints_part}
use Rattle.play_report.specs.Answers.{Prints}
use Rattle.play_report.specs.declared.failing.PlayFailed.{PlayFailed}
use Rattle.irq_play.proofs.summary.report_summary.Goals as goal
use Rattle.irq_play.proofs.summary.report_summary.Goals.{in-Ok, in-Err}

pub returns-clause-plays : goal.returns-clause-plays
returns-clause-plays g c =
    let ended = c.args.play.end in
    let sink = g.O.Sink.written in
    let before = sink c.args.out.now in
    let mid = sink c.print_laid-laid.new.out in
    let reports = c.take_reports-reports.result.reports in
    let layout = layout_rows c.args.board.now in
    let totals = totals_text (map told_by reports) in
    summed g.L.IrqLine.may_want c.args.board.now c.args.play.system c.requires.board reports before (sink c.match-laid.out) ended c.match-laid.end
    (elim c.match-laid.branch [
      | in-Ok w ↦
          subst (λ out. Prints (layout ++ totals) ended before (sink out) c.match-laid.end) (sym w.out-is)
          (subst (λ (end : Result PlayEnd PlayFailed). Prints (layout ++ totals) ended before (sink w.print_sums-end.new.out) end) (sym w.end-is)
          (prints_more layout totals ended before mid (sink w.print_sums-end.new.out) w.in-Ok.end w.print_sums-end.result w.in-Ok.ensures.prints
          w.print_sums-end.ensures.prints))
      | in-Err w ↦
          subst (λ out. Prints (layout ++ totals) ended before (sink out) c.match-laid.end) (sym w.out-is)
          (subst (λ (end : Result PlayEnd PlayFailed). Prints (layout ++ totals) ended before mid end) (sym w.end-is)
          (prints_part layout totals ended before mid w.in-Err.failed w.in-Err.ensures.prints))
    ])
    c.take_reports-reports.ensures.handed_out
