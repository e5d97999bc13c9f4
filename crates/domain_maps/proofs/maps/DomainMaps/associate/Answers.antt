use Rattle.std.proofs.Common.{Some}
use Rattle.revmap.specs.Answers.{is_associated}
use Rattle.domain_maps.proofs.Levels.{is_there, changed, same_sizes}
use Rattle.domain_maps.proofs.maps.DomainMaps.associate.Goals as goal

pub returns-clause-numbers : goal.returns-clause-numbers
returns-clause-numbers c d k =
    rw (← c.self.view_is) (changed c.self.inside.maps.items c.args.domain c.index_mut.result.now c.associate.new.self
    (is_associated c.associate.result) (Some c.args.virq) c.args.hw c.index_mut.ensures.value
    (rw c.self.view_is (is_there c.args.self.now (c.args.domain, c.args.hw) c.requires.within))
    c.associate.ensures.map d k)

pub returns-clause-sizes : goal.returns-clause-sizes
returns-clause-sizes c = rw (← c.self.view_is) (same_sizes c.self.inside.maps.items c.args.domain c.index_mut.result.now
    c.associate.new.self c.index_mut.ensures.value c.associate.ensures.size)
