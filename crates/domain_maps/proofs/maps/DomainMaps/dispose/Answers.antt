use Rattle.std.proofs.Common.{None, true, arith}
use Rattle.domain_maps.proofs.Levels.{changed, same_sizes, gone_nowhere}
use Rattle.domain_maps.proofs.maps.DomainMaps.dispose.Goals as goal

pub returns-then-domain-len-clause-numbers : goal.returns-then-domain-len-clause-numbers
returns-then-domain-len-clause-numbers c d k =
    rw (← c.self.view_is) (changed c.self.inside.maps.items c.args.domain c.index_mut.result.now c.dispose.new.self true
    None c.args.hw c.index_mut.ensures.value (omega (arith, c.if-domain-len.true, c.len.ensures))
    c.dispose.ensures.map d k)

pub returns-then-domain-len-clause-sizes : goal.returns-then-domain-len-clause-sizes
returns-then-domain-len-clause-sizes c = rw (← c.self.view_is)
    (same_sizes c.self.inside.maps.items c.args.domain c.index_mut.result.now c.dispose.new.self
    c.index_mut.ensures.value c.dispose.ensures.size)

pub returns-else-domain-len-clause-numbers : goal.returns-else-domain-len-clause-numbers
returns-else-domain-len-clause-numbers c d k =
    rw (← c.self.view_is) (gone_nowhere c.self.inside.maps.items c.args.domain c.args.hw (omega (arith, c.if-domain-len.false, c.len.ensures)) d k)
