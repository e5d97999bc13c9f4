use Rattle.std.proofs.Common.{All, IsOk, List, sym, ap, ◌∙◌, subst, Result}
use Rattle.irq_line.specs.declared.answers.StepRefused.{StepRefused}
use Rattle.board_core.specs.Hung.{stop_of}
use Rattle.board_core.specs.declared.ends.PlayEnd.{PlayEnd}
use Rattle.irq_pm.specs.SleepLog.{told}
use Rattle.irq_pm.specs.declared.entries.SleepEntry.{SleepEntry}
use Rattle.irq_io.specs.Whole.{WritesAll}
use Rattle.irq_sleeper.specs.Seen.{log_of}
use Rattle.irq_sleeper.specs.Steps.{IsSleep}
use Rattle.play_report.proofs.Answered.{some_end}
use Rattle.play_report.specs.Printing.{StepHasRow}
use Rattle.sleep_play.specs.Played.{SleepPlaySeen}
use Rattle.sleep_play.specs.Rows.{log_text}
use Rattle.sleep_play.proofs.Finished.{rows_done}
use Rattle.sleep_play.proofs.ended.SleepPlayEndedPlay.print.Goals as goal

pub print_rows-requires : goal.print_rows-requires
print_rows-requires g c =
    let s = c.self.inside.sleeper in
    let e = some_end c.self.inside.end (subst (λ (p : SleepPlaySeen). IsOk p.end) (sym c.self.view_is) c.requires) in
    subst (λ (log : List SleepEntry). All (StepHasRow told) log) (sym c.entries-steps.ensures)
    (rows_done s (subst (λ (end : Result PlayEnd StepRefused). IsSleep s s.system.board.picks (stop_of end)) e.1 c.self.invariant.0.sleep))

pub returns-clause-content : goal.returns-clause-content
returns-clause-content g c =
    let sink = g.O.Sink.written in
    subst (λ (log : List SleepEntry). WritesAll (sink c.args.out.now) (sink c.print_rows.new.out) (log_text log) c.print_rows.result)
    (c.entries-steps.ensures ∙ ap (λ (p : SleepPlaySeen). log_of p.sleeper) c.self.view_is) c.print_rows.ensures.content

pub returns-clause-cause : goal.returns-clause-cause
returns-clause-cause g c = c.print_rows.ensures.cause
