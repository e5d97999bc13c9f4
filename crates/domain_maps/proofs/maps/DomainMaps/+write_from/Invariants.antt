use Rattle.std.proofs.Common.{◌-◌, length}
use Rattle.domain_maps.proofs.maps.DomainMaps.+write_from.Given as goal

abbrev pub decreases-write_from : goal.decreases-write_from
decreases-write_from l = length l.path.now - l.from
