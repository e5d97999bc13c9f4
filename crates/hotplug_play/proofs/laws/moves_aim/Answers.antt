use Rattle.hotplug_play.proofs.Aims.{moves_aim}
use Rattle.hotplug_play.proofs.laws.moves_aim.Goals as goal

pub returns : goal.returns
returns c = record { law = moves_aim }
