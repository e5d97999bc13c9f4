use Rattle.std.proofs.Common.{◌++◌, Ok, Err}
use Rattle.std.proofs.lemmas.Result.{err_from_is_err_and}
use Rattle.log_text.specs.LayoutRows.{layout_rows}
use Rattle.board_report.proofs.Writing.{and_then, failed_within, then_handed_on}
use Rattle.play_report.proofs.Answered.{came_to}
use Rattle.play_report.proofs.ended.print_ended.Goals as goal

pub returns-in_err-print_layout-clause-prints : goal.returns-in_err-print_layout-clause-prints
returns-in_err-print_layout-clause-prints g c =
    let p = err_from_is_err_and c.from_residual-in_err-print_layout.result c.from_residual-in_err-print_layout.ensures.1 in
    let sink = g.O.Sink.written in
    rw (p.1, p.2) (
      came_to (g.P.EndedPlay.ended c.args.play.now) c.in_ok-end.end c.in_ok-end.ensures,
      failed_within (sink c.args.out.now) (sink c.print_layout.new.out) (layout_rows c.args.board.now) (g.P.EndedPlay.text c.args.play.now)
          c.in_err-print_layout.field-0.0 c.in_err-print_layout.ensures.content,
    )

pub returns-in_err-print-clause-prints : goal.returns-in_err-print-clause-prints
returns-in_err-print-clause-prints g c =
    let p = err_from_is_err_and c.from_residual-in_err-print.result c.from_residual-in_err-print.ensures.1 in
    let sink = g.O.Sink.written in
    rw (p.1, p.2) (
      came_to (g.P.EndedPlay.ended c.args.play.now) c.in_ok-end.end c.in_ok-end.ensures,
      and_then (sink c.args.out.now) (sink c.print_layout.new.out) (sink c.print.new.out) (layout_rows c.args.board.now)
          (g.P.EndedPlay.text c.args.play.now) (Err c.in_err-print.field-0.0) c.in_ok-print_layout.ensures.content c.in_err-print.ensures.content,
    )

pub returns-in_err-hand_on-clause-prints : goal.returns-in_err-hand_on-clause-prints
returns-in_err-hand_on-clause-prints g c =
    let p = err_from_is_err_and c.from_residual-in_err-hand_on.result c.from_residual-in_err-hand_on.ensures.1 in
    let sink = g.O.Sink.written in
    let layout = layout_rows c.args.board.now in
    let text = g.P.EndedPlay.text c.args.play.now in
    rw (p.1, p.2) (
      came_to (g.P.EndedPlay.ended c.args.play.now) c.in_ok-end.end c.in_ok-end.ensures,
      then_handed_on (sink c.args.out.now) (sink c.print.new.out) (sink c.hand_on.new.out) (layout ++ text) (Err c.in_err-hand_on.field-0.0)
          (and_then (sink c.args.out.now) (sink c.print_layout.new.out) (sink c.print.new.out) layout text (Ok tt) c.in_ok-print_layout.ensures.content
          c.in_ok-print.ensures.content) c.in_err-hand_on.ensures.content,
    )
