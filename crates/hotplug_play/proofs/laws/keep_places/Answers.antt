use Rattle.hotplug_play.proofs.Moments.{keep_places}
use Rattle.hotplug_play.proofs.laws.keep_places.Goals as goal

pub returns : goal.returns
returns c = record { law = keep_places }
