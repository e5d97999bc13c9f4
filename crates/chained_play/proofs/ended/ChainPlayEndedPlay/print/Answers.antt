use Rattle.std.proofs.Common.{All, IsOk, List, sym, subst, Result}
use Rattle.irq_line.specs.declared.answers.StepRefused.{StepRefused}
use Rattle.board_core.specs.Hung.{stop_of}
use Rattle.board_core.specs.declared.ends.PlayEnd.{PlayEnd}
use Rattle.irq_chained.specs.Chain.{told}
use Rattle.irq_chained.specs.Turned.{IsPlay}
use Rattle.irq_chained.specs.declared.chain.ChainEntry.{ChainEntry}
use Rattle.play_report.proofs.Answered.{some_end}
use Rattle.play_report.specs.Printing.{StepHasRow}
use Rattle.chained_play.specs.Played.{ChainPlaySeen}
use Rattle.chained_play.proofs.Finished.{rows_done}
use Rattle.chained_play.proofs.ended.ChainPlayEndedPlay.print.Goals as goal

pub print_rows-requires : goal.print_rows-requires
print_rows-requires g c =
    let d = c.self.inside.demux in
    let e = some_end c.self.inside.end (subst (λ (p : ChainPlaySeen). IsOk p.end) (sym c.self.view_is) c.requires) in
    subst (λ (log : List ChainEntry). All (StepHasRow told) log) (sym c.steps-steps.ensures)
    (rows_done d (subst (λ (end : Result PlayEnd StepRefused). IsPlay d d.board.picks (stop_of end)) e.1 c.self.invariant.0.play))
