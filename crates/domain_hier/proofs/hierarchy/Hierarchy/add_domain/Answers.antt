use Rattle.std.proofs.Common.{◌++◌, ◌∷◌, [], sym, subst, ap, ◌∙◌}
use Rattle.domain_hier.specs.Hierarchies.{HierarchySeen, IsHierarchy}
use Rattle.domain_rules.specs.Domains.{IsDomainAfter}
use Rattle.domain_hier.proofs.Keeps.{keeps_added}
use Rattle.domain_hier.proofs.hierarchy.Hierarchy.add_domain.Goals as goal

pub invariant_of-self-2 : goal.invariant_of-self-2
invariant_of-self-2 c =
    let i = c.self.inside in
    let allowed : IsDomainAfter i.domains.items c.args.def
    = subst (λ (h : HierarchySeen). IsDomainAfter h.domains c.args.def) (sym c.self.view_is)
    (record { size = c.requires.size; declared = c.requires.declared; parent = c.requires.parent }) in
    subst (λ ds. IsHierarchy ds c.push.new.self i.paths) (sym (c.push_reserved.ensures.items ∙ ap (λ ds. ds ++ c.args.def ∷ []) c.in_ok-reserve.ensures.items))
    (keeps_added i.domains.items c.args.def i.maps c.push.new.self i.paths c.self.invariant allowed c.in_ok-push.ensures.sizes c.in_ok-push.ensures.numbers)
