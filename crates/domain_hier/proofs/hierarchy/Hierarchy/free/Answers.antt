use Rattle.std.proofs.Common.{length, ◌≤◌, arith, ◌≡◌, ◌-◌, Some, sym, subst, ap, ◌∙◌}
use Rattle.domain_hier.specs.Hierarchies.{HierarchySeen, IsHierarchy}
use Rattle.domain_hier.specs.PathsInUse.{path_in, in_use}
use Rattle.domain_hier.proofs.Keeps.{keeps_freed}
use Rattle.domain_hier.proofs.Slots.{Paths, virq_slot, set_count}
use Rattle.domain_hier.proofs.hierarchy.Hierarchy.free.Goals as goal

pub invariant_of-self : goal.invariant_of-self
invariant_of-self c =
    let i = c.self.inside in
    let here : path_in i.paths c.args.virq ≡ Some c.in-Some.path
    = ap (λ (h : HierarchySeen). path_in h.paths c.args.virq) c.self.view_is ∙ sym c.in-Some.ensures in
    subst (IsHierarchy i.domains.items c.give_up.new.self) (sym c.remove.ensures)
    (keeps_freed i.domains.items i.maps c.give_up.new.self i.paths c.in-Some.path (c.args.virq - 1) c.self.invariant
    c.give_up.ensures.sizes c.give_up.ensures.numbers (virq_slot i.paths c.args.virq c.in-Some.path here))

pub returns-clause-count : goal.returns-clause-count
returns-clause-count c =
    let now : length (in_use c.remove.new.self) ≤ length (in_use c.self.inside.paths)
    = subst (λ (ps : Paths). length (in_use ps) ≤ length (in_use c.self.inside.paths)) (sym c.remove.ensures)
    (set_count 1 (c.args.virq - 1) c.self.inside.paths) in
    let was : length (in_use c.self.inside.paths) ≡ length (in_use c.args.self.now.paths)
    = ap (λ (h : HierarchySeen). length (in_use h.paths)) c.self.view_is in
    omega (arith, now, was)
