use Rattle.std.proofs.Common.{List, reverse, sym, ◌∙◌, subst}
use Rattle.callbacks.specs.Heard.{Heard}
use Rattle.board_core.specs.Runs.{runs_of}
use Rattle.board_def.specs.Seen.{BoardSeen}
use Rattle.board_play.specs.Lines.{Move}
use Rattle.irq_pm.specs.SleepLog.{moves_of}
use Rattle.irq_sleeper.specs.Seen.{log_of}
use Rattle.sleep_play.proofs.playing.play_sleep.Goals as goal

pub returns-clause-heard : goal.returns-clause-heard
returns-clause-heard g c =
    let s = c.play-stop.new.self in
    subst (λ (b : BoardSeen). Heard g.H.Handler.hears (runs_of b (moves_of (reverse (log_of s)))) c.args.handlers.now c.play-stop.new.handlers)
    (c.play-stop.ensures.stays.board ∙ c.in_ok-sleeper.ensures.board)
    (subst (λ (moves : List Move). Heard g.H.Handler.hears (runs_of s.system.board moves) c.args.handlers.now c.play-stop.new.handlers)
    (sym c.play-stop.ensures.told.told) c.play-stop.ensures.heard)
