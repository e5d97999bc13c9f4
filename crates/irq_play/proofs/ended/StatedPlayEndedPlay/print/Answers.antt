use Rattle.std.proofs.Common.{All, List, IsOk, Result, ap, sym, ◌∙◌, subst}
use Rattle.irq_io.specs.Whole.{WritesAll}
use Rattle.irq_line.specs.declared.answers.StepRefused.{StepRefused}
use Rattle.board_core.specs.declared.ends.PlayEnd.{PlayEnd}
use Rattle.board_play.specs.Lines.{Move}
use Rattle.play_report.proofs.Answered.{some_end}
use Rattle.play_report.specs.Printing.{HasRow}
use Rattle.play_report.specs.Report.{moves_text}
use Rattle.irq_play.specs.Played.{IsPlayed, StatedPlaySeen}
use Rattle.irq_play.proofs.Finished.{rows_done}
use Rattle.irq_play.proofs.ended.StatedPlayEndedPlay.print.Goals as goal

pub print_moves-requires : goal.print_moves-requires
print_moves-requires g c =
    let s = c.self.inside.system in
    let e = some_end c.self.inside.end (subst (λ (p : StatedPlaySeen). IsOk p.end) (sym c.self.view_is) c.requires) in
    subst (λ (log : List Move). All HasRow log) (sym c.moves.ensures)
    (rows_done s e.0 (subst (λ (ended : Result PlayEnd StepRefused). IsPlayed s ended) e.1 c.self.invariant.0))

pub returns-clause-content : goal.returns-clause-content
returns-clause-content g c =
    let sink = g.O.Sink.written in
    subst (λ (log : List Move). WritesAll (sink c.args.out.now) (sink c.print_moves.new.out) (moves_text log) c.print_moves.result)
    (c.moves.ensures ∙ ap (λ (p : StatedPlaySeen). p.system.log) c.self.view_is) c.print_moves.ensures.content
