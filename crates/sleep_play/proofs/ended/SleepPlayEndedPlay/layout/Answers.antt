use Rattle.std.proofs.Common.{ap, ◌∙◌}
use Rattle.board_def.specs.Layout.{layout_of}
use Rattle.sleep_play.specs.Played.{SleepPlaySeen}
use Rattle.sleep_play.proofs.ended.SleepPlayEndedPlay.layout.Goals as goal

pub returns : goal.returns
returns g c = c.layout.ensures ∙ (c.self.invariant.0.layout ∙ ap (λ (p : SleepPlaySeen). layout_of p.sleeper.system.board) c.self.view_is)
