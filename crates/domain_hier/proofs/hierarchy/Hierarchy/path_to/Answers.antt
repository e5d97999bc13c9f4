use Rattle.std.proofs.Common.{◌<◌, length, sym, subst, ap, ◌∙◌, ◌≡◌}
use Rattle.std.specs.List.{slice_get}
use Rattle.domain_rules.specs.Paths.{parent_in}
use Rattle.domain_hier.specs.Hierarchies.{HierarchySeen}
use Rattle.domain_hier.proofs.Ways.{IsBelow, parent_there}
use Rattle.domain_hier.proofs.hierarchy.Hierarchy.path_to.Goals as goal

pub push_levels-requires-clause-there : goal.push_levels-requires-clause-there
push_levels-requires-clause-there c =
    let domains = c.self.inside.domains.items in
    let there : c.args.domain < length domains = subst (λ (h : HierarchySeen). c.args.domain < length h.domains) (sym c.self.view_is) c.requires.there in
    let is : parent_in (slice_get domains c.args.domain)
    ≡ c.parent_of-above.result = sym (c.parent_of-above.ensures
    ∙ ap parent_in (c.domain_at.ensures ∙ ap (λ ds. slice_get ds c.args.domain) c.as_slice.ensures.value)) in
    subst (λ (h : HierarchySeen). IsBelow (length h.domains) c.parent_of-above.result) c.self.view_is
    (subst (IsBelow (length domains)) is (parent_there domains c.self.invariant.each c.args.domain there))
