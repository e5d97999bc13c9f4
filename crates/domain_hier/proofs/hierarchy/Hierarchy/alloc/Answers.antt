use Rattle.std.proofs.Common.{◌≡◌, ◌<◌, ◌+◌, ℕ, length, true, false, Some, None, is_some, sym, subst, ap, ◌∙◌, arith}
use Rattle.std.specs.List.{list_any}
use Rattle.domain_maps.specs.Numbers.{virq_at, HasRoom}
use Rattle.domain_rules.specs.Layout.{path_of, is_past_path}
use Rattle.domain_rules.specs.Levels.{masking_kind}
use Rattle.domain_rules.specs.Paths.{kinds_from}
use Rattle.domain_hier.specs.Hierarchies.{HierarchySeen, IsHierarchy, IsPlaced, alloc_answer, is_allocated}
use Rattle.domain_hier.specs.declared.answers.AllocAnswer.TheVariants as allocs
use Rattle.domain_maps.proofs.Levels.{is_free}
use Rattle.domain_hier.specs.PathsInUse.{in_use}
use Rattle.domain_hier.proofs.Slots.{free_few, placed_count}
use Rattle.domain_hier.proofs.Keeps.{path_has_room, none_if, masks_at, past_at, taken_due, ok_due, keeps_same, keeps_placed, path_placed}
use Rattle.domain_hier.proofs.hierarchy.Hierarchy.alloc.Goals as goal

pub write-requires-clause-room : goal.write-requires-clause-room
write-requires-clause-room c =
    let i = c.self.inside in
    let leaf : ℕ × ℕ = (c.args.domain, c.args.hw) in
    let is : c.path_to-path.result ≡ path_of i.domains.items (in_use i.paths) leaf = c.path_to-path.ensures
    ∙ ap (λ (h : HierarchySeen). path_of h.domains (in_use h.paths) leaf) (sym c.self.view_is) in
    let past : list_any (is_past_path i.domains.items) (path_of i.domains.items (in_use i.paths) leaf) ≡ false =
    past_at i.domains.items c.as_slice-2.result.now c.path_to-path.result
    (path_of i.domains.items (in_use i.paths) leaf) c.is_past.result c.is_past.ensures c.as_slice-2.ensures.value is
    c.if-is_past.false in
    let there : c.args.domain < length i.domains.items
    = subst (λ (h : HierarchySeen). c.args.domain < length h.domains) (sym c.self.view_is) c.requires.there in
    let free : virq_at i.maps c.args.domain c.args.hw ≡ None = sym c.virq.ensures ∙ none_if c.virq.result (sym c.is_some.ensures ∙ c.if-is_some.false) in
    subst (HasRoom i.maps) (sym is) (path_has_room i.domains.items i.maps i.paths c.self.invariant leaf there past free)

pub write-requires-clause-virq : goal.write-requires-clause-virq
write-requires-clause-virq c =
    let few : length (in_use c.self.inside.paths) < 4294967295
    = subst (λ (h : HierarchySeen). length (in_use h.paths) < 4294967295) (sym c.self.view_is) c.requires.few in
    omega (arith, few, free_few 1 c.self.inside.paths)

pub returns-then-is_some-clause-answer : goal.returns-then-is_some-clause-answer
returns-then-is_some-clause-answer c =
    let i = c.self.inside in
    let leaf : ℕ × ℕ = (c.args.domain, c.args.hw) in
    let is : c.path_to-path.result ≡ path_of i.domains.items (in_use i.paths) leaf = c.path_to-path.ensures
    ∙ ap (λ (h : HierarchySeen). path_of h.domains (in_use h.paths) leaf) (sym c.self.view_is) in
    let past : list_any (is_past_path i.domains.items) (path_of i.domains.items (in_use i.paths) leaf) ≡ false =
    past_at i.domains.items c.as_slice-2.result.now c.path_to-path.result
    (path_of i.domains.items (in_use i.paths) leaf) c.is_past.result c.is_past.ensures c.as_slice-2.ensures.value is
    c.if-is_past.false in
    let masks : is_some (masking_kind (kinds_from i.domains.items (Some leaf.0)))
    ≡ true = masks_at i.domains.items c.as_slice.result.now leaf.0 c.can_mask.result c.can_mask.ensures
    c.as_slice.ensures.value c.if-not-can_mask.false in
    let used : is_some (virq_at i.maps c.args.domain c.args.hw) ≡ true = ap is_some (sym c.virq.ensures) ∙ (sym c.is_some.ensures ∙ c.if-is_some.true) in
    sym (ap (λ h. alloc_answer h leaf) (sym c.self.view_is) ∙ taken_due i.domains.items i.maps i.paths c.self.invariant leaf masks past used)

pub invariant_of-self : goal.invariant_of-self
invariant_of-self c =
    let i = c.self.inside in
    keeps_same i.domains.items i.maps c.write.new.maps i.paths c.write.new.paths c.self.invariant c.write.ensures.sizes
    c.in_default.ensures.err c.in_default.ensures.kept

pub returns-in_default-clause-answer : goal.returns-in_default-clause-answer
returns-in_default-clause-answer c =
    let i = c.self.inside in
    let leaf : ℕ × ℕ = (c.args.domain, c.args.hw) in
    let is : c.path_to-path.result ≡ path_of i.domains.items (in_use i.paths) leaf = c.path_to-path.ensures
    ∙ ap (λ (h : HierarchySeen). path_of h.domains (in_use h.paths) leaf) (sym c.self.view_is) in
    let past : list_any (is_past_path i.domains.items) (path_of i.domains.items (in_use i.paths) leaf) ≡ false =
    past_at i.domains.items c.as_slice-2.result.now c.path_to-path.result
    (path_of i.domains.items (in_use i.paths) leaf) c.is_past.result c.is_past.ensures c.as_slice-2.ensures.value is
    c.if-is_past.false in
    let masks : is_some (masking_kind (kinds_from i.domains.items (Some leaf.0)))
    ≡ true = masks_at i.domains.items c.as_slice.result.now leaf.0 c.can_mask.result c.can_mask.ensures
    c.as_slice.ensures.value c.if-not-can_mask.false in
    let free : virq_at i.maps c.args.domain c.args.hw ≡ None = sym c.virq.ensures ∙ none_if c.virq.result (sym c.is_some.ensures ∙ c.if-is_some.false) in
    ap is_allocated (ap (λ h. alloc_answer h leaf) (sym c.self.view_is) ∙ ok_due i.domains.items i.maps i.paths c.self.invariant leaf masks past free)

pub invariant_of-self-2 : goal.invariant_of-self-2
invariant_of-self-2 c =
    let i = c.self.inside in
    let leaf : ℕ × ℕ = (c.args.domain, c.args.hw) in
    let is : c.path_to-path.result ≡ path_of i.domains.items (in_use i.paths) leaf = c.path_to-path.ensures
    ∙ ap (λ (h : HierarchySeen). path_of h.domains (in_use h.paths) leaf) (sym c.self.view_is) in
    let past : list_any (is_past_path i.domains.items) (path_of i.domains.items (in_use i.paths) leaf) ≡ false =
    past_at i.domains.items c.as_slice-2.result.now c.path_to-path.result
    (path_of i.domains.items (in_use i.paths) leaf) c.is_past.result c.is_past.ensures c.as_slice-2.ensures.value is
    c.if-is_past.false in
    let masks : is_some (masking_kind (kinds_from i.domains.items (Some leaf.0)))
    ≡ true = masks_at i.domains.items c.as_slice.result.now leaf.0 c.can_mask.result c.can_mask.ensures
    c.as_slice.ensures.value c.if-not-can_mask.false in
    let there : c.args.domain < length i.domains.items
    = subst (λ (h : HierarchySeen). c.args.domain < length h.domains) (sym c.self.view_is) c.requires.there in
    let free : virq_at i.maps c.args.domain c.args.hw ≡ None = sym c.virq.ensures ∙ none_if c.virq.result (sym c.is_some.ensures ∙ c.if-is_some.false) in
    let room : HasRoom i.maps c.path_to-path.result = subst (HasRoom i.maps) (sym is)
    (path_has_room i.domains.items i.maps i.paths c.self.invariant leaf there past free) in
    subst (IsHierarchy i.domains.items c.write.new.maps) (sym c.in-Ok.ensures.placed)
    (keeps_placed i.domains.items i.maps c.write.new.maps i.paths c.path_to-path.result c.self.invariant c.write.ensures.sizes c.in-Ok.ensures.ok
    (λ d k on. is_free i.maps c.path_to-path.result d k room on)
    (subst (IsPlaced i.domains.items) (sym is) (path_placed i.domains.items (in_use i.paths) leaf there masks)))

pub returns-clause-answer : goal.returns-clause-answer
returns-clause-answer c =
    let i = c.self.inside in
    let leaf : ℕ × ℕ = (c.args.domain, c.args.hw) in
    let is : c.path_to-path.result ≡ path_of i.domains.items (in_use i.paths) leaf = c.path_to-path.ensures
    ∙ ap (λ (h : HierarchySeen). path_of h.domains (in_use h.paths) leaf) (sym c.self.view_is) in
    let past : list_any (is_past_path i.domains.items) (path_of i.domains.items (in_use i.paths) leaf) ≡ false =
    past_at i.domains.items c.as_slice-2.result.now c.path_to-path.result
    (path_of i.domains.items (in_use i.paths) leaf) c.is_past.result c.is_past.ensures c.as_slice-2.ensures.value is
    c.if-is_past.false in
    let masks : is_some (masking_kind (kinds_from i.domains.items (Some leaf.0)))
    ≡ true = masks_at i.domains.items c.as_slice.result.now leaf.0 c.can_mask.result c.can_mask.ensures
    c.as_slice.ensures.value c.if-not-can_mask.false in
    let free : virq_at i.maps c.args.domain c.args.hw ≡ None = sym c.virq.ensures ∙ none_if c.virq.result (sym c.is_some.ensures ∙ c.if-is_some.false) in
    ap (λ v. allocs.Ok v) c.in-Ok.ensures.virq ∙ sym (ap (λ h. alloc_answer h leaf) (sym c.self.view_is)
    ∙ ok_due i.domains.items i.maps i.paths c.self.invariant leaf masks past free)

pub returns-clause-count : goal.returns-clause-count
returns-clause-count c =
    let now : length (in_use c.write.new.paths) ≡ length (in_use c.self.inside.paths) + 1
    = ap (λ ps. length (in_use ps)) c.in-Ok.ensures.placed
    ∙ placed_count 1 c.self.inside.paths c.path_to-path.result in
    let was : length (in_use c.self.inside.paths) ≡ length (in_use c.args.self.now.paths)
    = ap (λ (h : HierarchySeen). length (in_use h.paths)) c.self.view_is in
    omega (arith, now, was)
