use Rattle.std.proofs.Common.{◌∙◌, List, reverse, subst}
use Rattle.irq_base.specs.declared.devices.Run.{Run}
use Rattle.callbacks.specs.Heard.{Heard}
use Rattle.board_def.specs.Seen.{BoardSeen}
use Rattle.board_core.specs.Runs.{runs_of}
use Rattle.irq_chained.specs.Chain.{children}
use Rattle.chained_play.specs.Rows.{chain_text}
use Rattle.chained_play.proofs.Finished.{chains_board, tells_step}
use Rattle.chained_play.proofs.playing.chained_and_print.Goals as goal

pub returns-clause-plays : goal.returns-clause-plays
returns-clause-plays g c =
    let d = c.play-stop.new.self in
    let of = c.play-stop.ensures.board ∙ c.in-Ok-new-2.ensures.board in
    let played = c.report.result in
    chains_board g.M.Line.IrqLine.may_want c.args.board.now d of played.reports.reports (g.O.Sink.written c.args.out.now)
    (g.O.Sink.written c.report.new.out) played.end (λ (runs : List Run). Heard g.H.Handler.hears runs c.args.handlers.now c.play-stop.new.handlers)
    c.report.ensures.plays
    (subst (λ (x : BoardSeen). Heard g.H.Handler.hears (runs_of x (children (reverse d.log))) c.args.handlers.now
    c.play-stop.new.handlers) of c.play-stop.ensures.heard)

pub returns-clause-step : goal.returns-clause-step
returns-clause-step g c =
    let d = c.play-stop.new.self in
    let played = c.report.result in
    tells_step g.M.Line.IrqLine.may_want c.args.board.now d (c.play-stop.ensures.board ∙ c.in-Ok-new-2.ensures.board) played.reports.reports
    (g.O.Sink.written c.args.out.now) (g.O.Sink.written c.report.new.out) played.end (chain_text c.args.board.now d.log) c.report.ensures.plays
