use Rattle.std.proofs.Common.{◌-◌, length}
use Rattle.domain_maps.proofs.maps.DomainMaps.+give_up_from.Given as goal

abbrev pub decreases-give_up_from : goal.decreases-give_up_from
decreases-give_up_from l = length l.path.now - l.from
