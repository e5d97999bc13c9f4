use Rattle.std.proofs.Common.{ap, ◌∙◌}
use Rattle.board_def.specs.Layout.{layout_of}
use Rattle.irq_play.specs.Played.{StatedPlaySeen}
use Rattle.irq_play.proofs.ended.StatedPlayEndedPlay.layout.Goals as goal

pub returns : goal.returns
returns g c = c.layout.ensures ∙ (c.self.invariant.0.layout ∙ ap (λ (p : StatedPlaySeen). layout_of p.system.board) c.self.view_is)
