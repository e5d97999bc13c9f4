-- The path of a line in a layout goes by its domain's way to the root.
use Rattle.std.proofs.Common.{◌≡◌, ℕ, zero, suc, ◌+◌, ◌≤◌, Bool, true, false, cond, Some, List, [], ◌∷◌, ◌++◌, length, map, is_none, refl, sym, ap, ◌∙◌, arith}
use Rattle.std.proofs.Math.ListN.{length-map}
use Rattle.std.specs.List.{slice_get, list_any}
use Rattle.irq_base.specs.declared.domains.DomainDef.{DomainDef}
use Rattle.domain_rules.specs.Layout.{layout_after, placement_of, path_of, lowest_unused, is_past_path, is_used, count_of_mapped}
use Rattle.domain_rules.specs.Levels.{masking_kind}
use Rattle.domain_rules.specs.Paths.{way, kinds_from, kinds_on, kind_in, parent_in}
use Rattle.domain_rules.specs.declared.layouts.Placement.{Placement}
use Rattle.domain_rules.specs.declared.layouts.Placement.TheVariants as placements
use Rattle.domain_rules.specs.declared.layouts.Unmapped.TheVariants as reasons
use Rattle.domain_rules.proofs.Ways.{way_short}

mapped_path : (a b c : Bool) (n virq : ℕ) (p path : List (ℕ × ℕ))
    → cond a (placements.Refused reasons.NoMask) (cond b (placements.Refused reasons.OutOfRange)
    (cond c (placements.Refused reasons.Taken) (placements.Mapped n p))) ≡ placements.Mapped virq path → p ≡ path
mapped_path true b c n virq p path e = absurd cc
mapped_path false true c n virq p path e = absurd cc
mapped_path false false true n virq p path e = absurd cc
mapped_path false false false n virq p path e = cc

pub placed_path : (domains : List DomainDef) (earlier : List Placement) (leaf : ℕ × ℕ) (virq : ℕ) (path : List (ℕ × ℕ))
    → placement_of domains earlier leaf ≡ placements.Mapped virq path → path_of domains earlier leaf ≡ path
placed_path domains earlier leaf virq path e =
    let own = path_of domains earlier leaf in
    mapped_path (is_none (masking_kind (kinds_from domains (Some leaf.0)))) (list_any (is_past_path domains) own)
    (is_used earlier leaf.0 leaf.1) (count_of_mapped earlier + 1) virq own path e

-- the placement at a line's place is the line's, after some
pub laid : (domains : List DomainDef) (earlier : List Placement) (leaves : List (ℕ × ℕ)) (i : ℕ) (leaf : ℕ × ℕ) (p : Placement) → slice_get leaves i ≡ Some leaf
    → slice_get (layout_after domains earlier leaves) i ≡ Some p → (before : List Placement) × (placement_of domains before leaf ≡ p)
laid domains earlier [] i leaf p at is = absurd cc
laid domains earlier (l ∷ leaves) zero leaf p at is =
    let same : l ≡ leaf = cc in
    let here : placement_of domains earlier l ≡ p = cc in
    (earlier, ap (placement_of domains earlier) (sym same) ∙ here)
laid domains earlier (l ∷ leaves) (suc i) leaf p at is = laid domains (earlier ++ placement_of domains earlier l ∷ []) leaves i leaf p at is

-- one placement a line
pub laid_all : (domains : List DomainDef) (earlier : List Placement) (leaves : List (ℕ × ℕ)) → length (layout_after domains earlier leaves) ≡ length leaves
laid_all domains earlier [] = refl
laid_all domains earlier (leaf ∷ leaves) = ap suc (laid_all domains (earlier ++ placement_of domains earlier leaf ∷ []) leaves)

kinds_above : (domains : List DomainDef) (f : ℕ → ℕ) (places : List ℕ)
    → kinds_on domains (map (λ place. (place, f place)) places)
    ≡ map (λ place. kind_in (slice_get domains place)) places
kinds_above domains f [] = refl
kinds_above domains f (place ∷ places) = ap (λ ks. kind_in (slice_get domains place) ∷ ks) (kinds_above domains f places)

-- the kinds on a line's path are the kinds on the way from its domain
pub path_kinds : (domains : List DomainDef) (earlier : List Placement) (leaf : ℕ × ℕ)
    → kinds_on domains (path_of domains earlier leaf) ≡ kinds_from domains (Some leaf.0)
path_kinds domains earlier leaf =
    ap (λ ks. kind_in (slice_get domains leaf.0) ∷ ks) (kinds_above domains (lowest_unused earlier) (way 7 domains (parent_in (slice_get domains leaf.0))))

pub path_short : (domains : List DomainDef) (earlier : List Placement) (leaf : ℕ × ℕ) → length (path_of domains earlier leaf) ≤ 8
path_short domains earlier leaf =
    let up = way 7 domains (parent_in (slice_get domains leaf.0)) in
    let pairs : ℕ → ℕ × ℕ = λ place. (place, lowest_unused earlier place) in
    omega (arith, length-map up pairs, way_short 7 domains (parent_in (slice_get domains leaf.0)))
