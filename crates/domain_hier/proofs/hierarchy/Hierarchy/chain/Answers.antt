use Rattle.std.proofs.Common.{◌≡◌, Some, List, sym, subst, ap, ◌∙◌}
use Rattle.irq_base.specs.declared.domains.DomainDef.{DomainDef}
use Rattle.domain_rules.specs.Domains.{EachAfter, IsDomainAfter}
use Rattle.domain_hier.specs.Hierarchies.{HierarchySeen, IsPlaced}
use Rattle.domain_hier.specs.PathsInUse.{path_in}
use Rattle.domain_hier.proofs.hierarchy.Hierarchy.chain.Goals as goal

pub chain_on-requires-clause-each : goal.chain_on-requires-clause-each
chain_on-requires-clause-each c = subst (λ (ds : List DomainDef). EachAfter IsDomainAfter ds) (sym c.as_slice.ensures.value) c.self.invariant.each

pub chain_on-requires-clause-placed : goal.chain_on-requires-clause-placed
chain_on-requires-clause-placed c =
    let here : path_in c.self.inside.paths c.args.virq
    ≡ Some c.unwrap-path.result = ap (λ (h : HierarchySeen). path_in h.paths c.args.virq) c.self.view_is
    ∙ (sym c.path.ensures ∙ c.unwrap-path.ensures) in
    subst (λ (ds : List DomainDef). IsPlaced ds c.unwrap-path.result) (sym c.as_slice.ensures.value)
    (c.self.invariant.placed c.args.virq c.unwrap-path.result here)
