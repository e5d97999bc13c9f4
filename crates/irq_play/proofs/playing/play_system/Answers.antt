use Rattle.std.proofs.Common.{reverse, ◌∙◌, subst}
use Rattle.board_core.specs.Runs.{runs_of}
use Rattle.board_def.specs.Seen.{BoardSeen}
use Rattle.callbacks.specs.Heard.{Heard}
use Rattle.irq_play.proofs.playing.play_system.Goals as goal

pub returns-clause-heard : goal.returns-clause-heard
returns-clause-heard g c =
    subst (λ (b : BoardSeen). Heard g.H.Handler.hears (runs_of b (reverse c.play-stop.new.self.log)) c.args.handlers.now c.play-stop.new.handlers)
    (c.play-stop.ensures.board ∙ c.in_ok-system.ensures.board) c.play-stop.ensures.heard
