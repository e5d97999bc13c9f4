use Rattle.std.proofs.Common.{◌≡◌, ◌+◌, ◌<◌, ◌++◌, ◌∷◌, [], ℕ, List, Option, Some, is_some, length, refl, sym, subst, ap, ◌∙◌}
use Rattle.domain_rules.specs.Layout.{placement_of, path_of, count_of_mapped}
use Rattle.domain_rules.specs.declared.layouts.Placement.TheVariants as placements
use Rattle.domain_rules.specs.declared.layouts.Unmapped.TheVariants as reasons
use Rattle.domain_hier.specs.Hierarchies.{HierarchySeen}
use Rattle.domain_hier.specs.PathsInUse.{in_use, path_in, placed}
use Rattle.domain_hier.specs.declared.answers.AllocAnswer.TheVariants as allocs
use Rattle.board_layout.specs.Laid.{paths_of}
use Rattle.board_layout.proofs.Placing.{few_in_use, told, taken_path, taken_paths, mapped_is, is_the_path, taken_is, out_is, mask_is, one_refused}
use Rattle.board_layout.proofs.laying.place_line.Goals as goal

pub alloc-requires-clause-few : goal.alloc-requires-clause-few
alloc-requires-clause-few c = subst (λ (ps : List (Option (List (ℕ × ℕ)))). length (in_use ps) < 4294967295)
    (sym c.requires.laid) (few_in_use c.args.earlier.now c.requires.few)

pub unwrap-path-requires : goal.unwrap-path-requires
unwrap-path-requires c =
    let h = c.args.domains.now in
    let earlier = c.args.earlier.now in
    let leaf : ℕ × ℕ = (c.args.row.domain, c.args.row.hw) in
    let after : c.alloc.new.self.paths ≡ placed h.paths (path_of h.domains (in_use h.paths) leaf) = ap (λ (x : HierarchySeen). x.paths) c.in-Ok.ensures.after in
    let at : path_in c.alloc.new.self.paths c.in-Ok.virq
    ≡ Some (path_of h.domains earlier leaf) = taken_path h earlier leaf c.in-Ok.virq c.alloc.new.self.paths
    c.requires.laid c.requires.falls c.in-Ok.ensures.answer after in
    ap is_some (c.path.ensures ∙ at)

pub returns-in-Ok-clause-placement : goal.returns-in-Ok-clause-placement
returns-in-Ok-clause-placement c =
    let h = c.args.domains.now in
    let earlier = c.args.earlier.now in
    let leaf : ℕ × ℕ = (c.args.row.domain, c.args.row.hw) in
    let after : c.alloc.new.self.paths ≡ placed h.paths (path_of h.domains (in_use h.paths) leaf) = ap (λ (x : HierarchySeen). x.paths) c.in-Ok.ensures.after in
    let at : path_in c.alloc.new.self.paths c.in-Ok.virq
    ≡ Some (path_of h.domains earlier leaf) = taken_path h earlier leaf c.in-Ok.virq c.alloc.new.self.paths
    c.requires.laid c.requires.falls c.in-Ok.ensures.answer after in
    let path : c.unwrap-path.result ≡ path_of h.domains earlier leaf
    = is_the_path c.path.result c.unwrap-path.result (path_of h.domains earlier leaf) c.unwrap-path.ensures
    (c.path.ensures ∙ at) in
    mapped_is h earlier leaf c.in-Ok.virq c.unwrap-path.result c.requires.laid c.requires.falls c.in-Ok.ensures.answer path

pub returns-in-Ok-clause-paths : goal.returns-in-Ok-clause-paths
returns-in-Ok-clause-paths c =
    let h = c.args.domains.now in
    let earlier = c.args.earlier.now in
    let leaf : ℕ × ℕ = (c.args.row.domain, c.args.row.hw) in
    let after : c.alloc.new.self.paths ≡ placed h.paths (path_of h.domains (in_use h.paths) leaf) = ap (λ (x : HierarchySeen). x.paths) c.in-Ok.ensures.after in
    let at : path_in c.alloc.new.self.paths c.in-Ok.virq
    ≡ Some (path_of h.domains earlier leaf) = taken_path h earlier leaf c.in-Ok.virq c.alloc.new.self.paths
    c.requires.laid c.requires.falls c.in-Ok.ensures.answer after in
    let path : c.unwrap-path.result ≡ path_of h.domains earlier leaf
    = is_the_path c.path.result c.unwrap-path.result (path_of h.domains earlier leaf) c.unwrap-path.ensures
    (c.path.ensures ∙ at) in
    taken_paths h earlier leaf c.in-Ok.virq c.alloc.new.self.paths c.requires.laid c.requires.falls after
    ∙ ap (λ p. paths_of (earlier ++ placements.Mapped c.in-Ok.virq p ∷ [])) (sym path)

pub returns-in-Taken-clause-placement : goal.returns-in-Taken-clause-placement
returns-in-Taken-clause-placement c =
    let h = c.args.domains.now in
    let earlier = c.args.earlier.now in
    let leaf : ℕ × ℕ = (c.args.row.domain, c.args.row.hw) in
    taken_is (placement_of h.domains earlier leaf) (count_of_mapped earlier + 1)
    (told h earlier leaf allocs.Taken c.requires.laid c.requires.falls c.in-Taken.ensures.answer)

pub returns-in-Taken-clause-paths : goal.returns-in-Taken-clause-paths
returns-in-Taken-clause-paths c = ap (λ (x : HierarchySeen). x.paths) c.in-Taken.ensures.after
    ∙ (c.requires.laid ∙ one_refused c.args.earlier.now (placements.Refused reasons.Taken) refl)

pub returns-in-OutOfRange-clause-placement : goal.returns-in-OutOfRange-clause-placement
returns-in-OutOfRange-clause-placement c =
    let h = c.args.domains.now in
    let earlier = c.args.earlier.now in
    let leaf : ℕ × ℕ = (c.args.row.domain, c.args.row.hw) in
    out_is (placement_of h.domains earlier leaf) (count_of_mapped earlier + 1)
    (told h earlier leaf allocs.OutOfRange c.requires.laid c.requires.falls c.in-OutOfRange.ensures.answer)

pub returns-in-OutOfRange-clause-paths : goal.returns-in-OutOfRange-clause-paths
returns-in-OutOfRange-clause-paths c = ap (λ (x : HierarchySeen). x.paths) c.in-OutOfRange.ensures.after
    ∙ (c.requires.laid ∙ one_refused c.args.earlier.now (placements.Refused reasons.OutOfRange) refl)

pub returns-in-NoMask-clause-placement : goal.returns-in-NoMask-clause-placement
returns-in-NoMask-clause-placement c =
    let h = c.args.domains.now in
    let earlier = c.args.earlier.now in
    let leaf : ℕ × ℕ = (c.args.row.domain, c.args.row.hw) in
    mask_is (placement_of h.domains earlier leaf) (count_of_mapped earlier + 1)
    (told h earlier leaf allocs.NoMask c.requires.laid c.requires.falls c.in-NoMask.ensures.answer)

pub returns-in-NoMask-clause-paths : goal.returns-in-NoMask-clause-paths
returns-in-NoMask-clause-paths c = ap (λ (x : HierarchySeen). x.paths) c.in-NoMask.ensures.after
    ∙ (c.requires.laid ∙ one_refused c.args.earlier.now (placements.Refused reasons.NoMask) refl)
