use Rattle.std.proofs.Common.{ap}
use Rattle.sleep_play.specs.Played.{SleepPlaySeen}
use Rattle.sleep_play.proofs.ended.SleepPlayEndedPlay.end.Goals as goal

pub returns : goal.returns
returns g c = ap (λ (p : SleepPlaySeen). p.end) c.self.view_is
