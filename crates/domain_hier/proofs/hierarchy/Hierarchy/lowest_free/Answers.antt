use Rattle.std.proofs.Common.{◌<◌, ◌≤◌, length, sym, subst, arith}
use Rattle.domain_hier.specs.Hierarchies.{HierarchySeen}
use Rattle.domain_hier.specs.PathsInUse.{in_use}
use Rattle.domain_hier.proofs.Counting.{used_below, lowest_is}
use Rattle.domain_hier.proofs.Agreement.{each_once, some_used, none_unused}
use Rattle.domain_hier.proofs.hierarchy.Hierarchy.lowest_free.Goals as goal

pub lowest_free-requires-clause-free : goal.lowest_free-requires-clause-free
lowest_free-requires-clause-free c full =
    let i = c.self.inside in
    let d = c.args.domain in
    let all : 4294967296 ≤ length (in_use i.paths) = used_below 4294967296 d (in_use i.paths) (each_once i.domains.items i.maps i.paths c.self.invariant d)
    (λ j below. some_used i.domains.items i.maps i.paths c.self.invariant d j (full j below)) in
    let few : length (in_use i.paths) < 4294967295 = subst (λ (h : HierarchySeen). length (in_use h.paths) < 4294967295) (sym c.self.view_is) c.requires.few in
    omega (arith, all, few)

pub returns : goal.returns
returns c =
    let i = c.self.inside in
    let d = c.args.domain in
    let n = c.lowest_free.result in
    rw (← c.self.view_is)
    (sym (lowest_is n d (in_use i.paths) (each_once i.domains.items i.maps i.paths c.self.invariant d)
    (λ j below. some_used i.domains.items i.maps i.paths c.self.invariant d j (c.lowest_free.ensures.2 j below))
    (none_unused i.domains.items i.maps i.paths c.self.invariant d n c.lowest_free.ensures.0)))
