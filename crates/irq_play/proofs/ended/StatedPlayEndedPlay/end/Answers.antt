use Rattle.std.proofs.Common.{ap}
use Rattle.irq_play.specs.Played.{StatedPlaySeen}
use Rattle.irq_play.proofs.ended.StatedPlayEndedPlay.end.Goals as goal

pub returns : goal.returns
returns g c = ap (λ (p : StatedPlaySeen). p.end) c.self.view_is
