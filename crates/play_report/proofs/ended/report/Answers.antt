use Rattle.std.proofs.Common.{◌++◌}
use Rattle.log_text.specs.LayoutRows.{layout_rows}
use Rattle.play_report.proofs.Answered.{printed}
use Rattle.play_report.proofs.ended.report.Goals as goal

pub returns-clause-plays : goal.returns-clause-plays
returns-clause-plays g c =
    let play = g.P.EndedPlay in
    printed (layout_rows c.args.board.now ++ play.text c.args.play) (play.hands_out c.args.play) (play.ended c.args.play)
    c.hand_out-reports.result.reports (g.O.Sink.written c.args.out.now) (g.O.Sink.written c.print_ended-end.new.out) c.print_ended-end.result
    c.print_ended-end.ensures.prints c.hand_out-reports.ensures
