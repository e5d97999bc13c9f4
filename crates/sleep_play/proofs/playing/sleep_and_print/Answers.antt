use Rattle.std.proofs.Common.{◌≡◌, List, [], refl}
use Rattle.irq_base.specs.declared.devices.Run.{Run}
use Rattle.callbacks.specs.Heard.{Heard}
use Rattle.sleep_play.specs.Headline.{RefusedStep, SleepCut, SleepHandsOut}
use Rattle.sleep_play.specs.Played.{runs_of_steps}
use Rattle.sleep_play.specs.Rows.{sleep_text}
use Rattle.play_report.proofs.Answered.{no_fault, not_done, of_none, tells_none}
use Rattle.sleep_play.proofs.playing.sleep_and_print.Goals as goal

pub returns-in-Ok-clause-plays : goal.returns-in-Ok-clause-plays
returns-in-Ok-clause-plays g c = c.play_longer.ensures.plays c.args.board c.in-Ok.ensures.longer

pub returns-in-Ok-clause-step : goal.returns-in-Ok-clause-step
returns-in-Ok-clause-step g c = c.play_longer.ensures.step c.args.board c.in-Ok.ensures.longer

pub returns-in-Ok-clause-emptied : goal.returns-in-Ok-clause-emptied
returns-in-Ok-clause-emptied g c = c.play_longer.ensures.emptied

pub returns-in-Ok-clause-write_fault : goal.returns-in-Ok-clause-write_fault
returns-in-Ok-clause-write_fault g c = c.play_longer.ensures.write_fault

pub returns-in-Ok-clause-silent : goal.returns-in-Ok-clause-silent
returns-in-Ok-clause-silent g c = c.play_longer.ensures.silent

pub play_longer-requires : goal.play_longer-requires
play_longer-requires g c = c.in-Ok.ensures.laid

pub returns-in-Err-NotForSleep-clause-refused : goal.returns-in-Err-NotForSleep-clause-refused
returns-in-Err-NotForSleep-clause-refused g c = c.in-Err-NotForSleep.ensures.refused c.in-Err-NotForSleep.field-0-is

pub returns-in-Err-NoMemory-clause-plays : goal.returns-in-Err-NoMemory-clause-plays
returns-in-Err-NoMemory-clause-plays g c =
    let b = c.args.board in
    let told = g.O.Sink.written c.args.out.now in
    of_none (sleep_text b) (SleepHandsOut b c.args.armed.now) (runs_of_steps b)
    (λ (runs : List Run). Heard g.H.Handler.hears runs c.args.handlers.now c.args.handlers.now) c.unplayed.result.reports.reports told told
    c.unplayed.result.end c.unplayed.ensures.end c.unplayed.ensures.reports refl

pub returns-in-Err-NoMemory-clause-step : goal.returns-in-Err-NoMemory-clause-step
returns-in-Err-NoMemory-clause-step g c =
    tells_none (SleepCut c.args.board c.args.armed.now) (RefusedStep g.M.Line.IrqLine.may_want c.args.board c.args.armed.now)
    c.unplayed.result.reports.reports c.unplayed.result.end c.unplayed.ensures.end

pub returns-in-Err-NoMemory-clause-emptied : goal.returns-in-Err-NoMemory-clause-emptied
returns-in-Err-NoMemory-clause-emptied g c = not_done c.unplayed.result.end c.unplayed.ensures.end (g.O.Sink.kept c.args.out.now ≡ [])

pub returns-in-Err-NoMemory-clause-write_fault : goal.returns-in-Err-NoMemory-clause-write_fault
returns-in-Err-NoMemory-clause-write_fault g c = no_fault c.unplayed.result.end c.unplayed.ensures.end (g.O.Sink.faults c.args.out.now)

pub returns-in-Err-NoMemory-clause-silent : goal.returns-in-Err-NoMemory-clause-silent
returns-in-Err-NoMemory-clause-silent g c = λ not. refl
