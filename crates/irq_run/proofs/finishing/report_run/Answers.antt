use Rattle.std.proofs.Common.{Result, Ok, List, sym, subst}
use Rattle.board_core.specs.Seen.{board_lines}
use Rattle.board_core.specs.declared.ends.PlayEnd.{PlayEnd}
use Rattle.board_report.specs.Headline.{LineHistory, histories_of}
use Rattle.board_report.specs.Reporting.{entries_in}
use Rattle.irq_line.specs.declared.answers.StepRefused.{StepRefused}
use Rattle.log_text.specs.LayoutRows.{layout_rows}
use Rattle.play_report.proofs.Answered.{printed, prints_more, prints_part}
use Rattle.play_report.specs.Answers.{HandsOutStep, Prints}
use Rattle.play_report.specs.declared.failing.PlayFailed.{PlayFailed}
use Rattle.irq_run.specs.Ran.{HandsOut, IsRun, RefusedStep}
use Rattle.irq_run.specs.Report.{rows_text, run_text}
use Rattle.irq_run.proofs.Finished.{handed_out}
use Rattle.irq_run.proofs.finishing.report_run.Goals as goal
use Rattle.irq_run.proofs.finishing.report_run.Goals.{in-Ok, in-Err}

pub print_laid-laid-requires : goal.print_laid-laid-requires
print_laid-laid-requires g c =
    subst (λ (stop : Result Unit StepRefused). IsRun c.args.board.now c.args.system stop) (sym c.end_after-end.ensures.stop) c.requires.ran

pub returns-clause-runs : goal.returns-clause-runs
returns-clause-runs g c =
    let b = c.args.board.now in
    let sink = g.O.Sink.written in
    let entries = entries_in (board_lines c.args.system.lines) in
    let end = c.end_after-end.result in
    let out = c.hand_out-reports.ensures in
    let laid = c.print_laid-laid.ensures.prints in
    let rows = rows_text c.args.summary (histories_of b entries) in
    let prints : Prints (run_text b c.args.summary (histories_of b entries)) end (sink c.args.out.now) (sink c.match-laid.out) c.match-laid.end
    = elim c.match-laid.branch [
      | in-Ok w ↦
          rw (w.out-is, w.end-is) (prints_more (layout_rows b) rows end (sink c.args.out.now) (sink c.print_laid-laid.new.out)
          (sink w.print_rows-end.new.out) w.in-Ok.end w.print_rows-end.result
          (subst (λ (r : Result PlayEnd PlayFailed). Prints (layout_rows b) end (sink c.args.out.now)
          (sink c.print_laid-laid.new.out) r) w.in-Ok.is laid)
          (subst (λ (hs : List LineHistory). Prints (rows_text c.args.summary hs) (Ok w.in-Ok.end) (sink c.print_laid-laid.new.out)
          (sink w.print_rows-end.new.out) w.print_rows-end.result) out.so_far.handed_out w.print_rows-end.ensures.prints))
      | in-Err w ↦
          rw (w.out-is, w.end-is) (prints_part (layout_rows b) rows end (sink c.args.out.now) (sink c.print_laid-laid.new.out) w.in-Err.failed
          (subst (λ (r : Result PlayEnd PlayFailed). Prints (layout_rows b) end (sink c.args.out.now)
          (sink c.print_laid-laid.new.out) r) w.in-Err.is laid))
    ] in
    printed (run_text b c.args.summary (histories_of b entries))
    (HandsOutStep (HandsOut b entries) (RefusedStep g.L.IrqLine.may_want b entries)) end c.hand_out-reports.result.reports
    (sink c.args.out.now) (sink c.match-laid.out) c.match-laid.end prints
    (handed_out b c.is_board.ensures.board c.args.system c.requires.ran.board c.is_kept.ensures g.L.IrqLine.may_want c.args.stop end
    c.end_after-end.ensures.stop c.requires.ran c.end_after-end.ensures.says c.requires.memory c.hand_out-reports.result.reports
    (record { so_far = out.so_far; done = out.done; hung = out.hung; full = out.full }) out.room)
