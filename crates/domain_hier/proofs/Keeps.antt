-- What a hierarchy keeps: the path of an allocation has room, and after each call the maps are what
-- the paths say.
use Rattle.std.proofs.Common.{◌≡◌, ◌≢◌, ℕ, zero, suc, ◌+◌, ◌<◌, ◌≤◌, Bool, true, false, cond, ◌==◌, ◌||◌, is_some}
use Rattle.std.proofs.Common.{is_none, Option, Some, None, option_map, List, [], ◌∷◌, ◌++◌, length, map, refl, sym, ap}
use Rattle.std.proofs.Common.{subst, ◌∙◌, eqb-true, add-one, arith}
use Rattle.std.proofs.Math.ListN.{set, length-map}
use Rattle.std.specs.List.{slice_get, list_any}
use Rattle.std.proofs.lemmas.Bool.{false≢true, eqb-false}
use Rattle.std.proofs.lemmas.Bool.Decides.{leb_tells}
use Rattle.std.proofs.lemmas.List.{map-append, length_push}
use Rattle.std.proofs.lemmas.Option.{slice_get-map}
use Rattle.irq_base.specs.declared.domains.DomainDef.{DomainDef}
use Rattle.irq_base.specs.declared.domains.MapKind.{MapKind}
use Rattle.irq_base.specs.declared.domains.MapKind.TheVariants as kinds
use Rattle.irq_base.specs.declared.domains.ControllerKind.TheVariants as levels
use Rattle.domain_maps.specs.Numbers.{virq_at, sizes, size_of_kind, is_on, is_within, has_place_in, HasRoom, with_path, without_path}
use Rattle.domain_maps.specs.declared.map.DomainMap.{DomainMap}
use Rattle.domain_rules.specs.Domains.{EachAfter, IsDomainAfter}
use Rattle.domain_rules.specs.Layout.{is_used, is_past_path, is_past_domain, lowest_unused, path_of, count_of_mapped}
use Rattle.domain_rules.specs.Levels.{masking_kind}
use Rattle.domain_rules.specs.Paths.{most_levels, way, parent_in, kind_in, kind_at, kinds_on, kinds_from}
use Rattle.domain_rules.proofs.EachAfters.{each_more}
use Rattle.domain_rules.specs.declared.layouts.Placement.{Placement}
use Rattle.domain_rules.specs.declared.layouts.Placement.TheVariants as placements
use Rattle.domain_rules.specs.declared.layouts.Unmapped.TheVariants as reasons
use Rattle.domain_hier.specs.Hierarchies.{HierarchySeen, IsHierarchy, IsPlaced, has_level, first_place, answer_by, alloc_answer}
use Rattle.domain_hier.specs.declared.answers.AllocAnswer.TheVariants as allocs
use Rattle.domain_hier.specs.PathsInUse.{slot, path_in, first_free, lowest_virq, placed, in_use, lowest_levels}
use Rattle.domain_hier.proofs.Agreement.{each_once, unused_none, none_unused, some_used}
use Rattle.domain_hier.proofs.Counting.{lowest_is_unused}
use Rattle.domain_hier.proofs.Slots.{Paths, free_slot, placed_here, placed_elsewhere}
use Rattle.domain_hier.proofs.Ways.{IsBelow, AllBelow, Falls, places, not_on, parent_there, way_below, way_falls, way_short}

-- ---- the path of an allocation

pub places_of_levels : (earlier : List Placement) (ps : List ℕ) → places (lowest_levels earlier ps) ≡ ps
places_of_levels earlier [] = refl
places_of_levels earlier (p ∷ ps) = ap (λ qs. p ∷ qs) (places_of_levels earlier ps)

pub places_of_path : (domains : List DomainDef) (earlier : List Placement) (leaf : ℕ × ℕ)
    → places (path_of domains earlier leaf) ≡ way most_levels domains (Some leaf.0)
places_of_path domains earlier leaf = ap (λ qs. leaf.0 ∷ qs) (places_of_levels earlier (way 7 domains (parent_in (slice_get domains leaf.0))))

pub path_short : (domains : List DomainDef) (earlier : List Placement) (leaf : ℕ × ℕ) → length (path_of domains earlier leaf) ≤ 8
path_short domains earlier leaf =
    let place_of : ℕ × ℕ → ℕ = λ level. level.0 in
    let as_long : length (places (path_of domains earlier leaf)) ≡ length (path_of domains earlier leaf) = length-map (path_of domains earlier leaf) place_of in
    omega (arith, as_long, ap length (places_of_path domains earlier leaf), way_short 8 domains (Some leaf.0))

pub kinds_of_places : (domains : List DomainDef) (path : List (ℕ × ℕ)) → kinds_on domains path ≡ map (λ place. kind_in (slice_get domains place)) (places path)
kinds_of_places domains [] = refl
kinds_of_places domains (level ∷ levels) = ap (λ ks. kind_at domains level ∷ ks) (kinds_of_places domains levels)

pub kinds_of_path : (domains : List DomainDef) (earlier : List Placement) (leaf : ℕ × ℕ)
    → kinds_on domains (path_of domains earlier leaf) ≡ kinds_from domains (Some leaf.0)
kinds_of_path domains earlier leaf = kinds_of_places domains (path_of domains earlier leaf)
    ∙ ap (map (λ place. kind_in (slice_get domains place))) (places_of_path domains earlier leaf)

pub path_placed : (domains : List DomainDef) (earlier : List Placement) (leaf : ℕ × ℕ) → leaf.0 < length domains
    → is_some (masking_kind (kinds_from domains (Some leaf.0))) ≡ true → IsPlaced domains (path_of domains earlier leaf)
path_placed domains earlier leaf there masks = record {
  there = there;
  way = places_of_path domains earlier leaf;
  masks = ap (λ ks. is_some (masking_kind ks)) (kinds_of_path domains earlier leaf) ∙ masks;
}

none_past : (domains : List DomainDef) (i : ℕ) → slice_get domains i ≡ None → length domains ≤ i
none_past [] i is = omega arith
none_past (d ∷ ds) zero is = absurd cc
none_past (d ∷ ds) (suc i) is = omega (arith, none_past ds i is)

fits : (kind : MapKind) (k : ℕ) → is_past_domain (Some (record { map = kind; kind = levels.Remap; parent = None })) k
    ≡ false → has_place_in (Some (size_of_kind kind)) k ≡ true
fits (kinds.Linear n) k e = grind (arith, leb_tells, e)
fits kinds.Tree k e = refl

within : (domains : List DomainDef) (maps : List DomainMap) → sizes maps ≡ map (λ def. size_of_kind def.map) domains
    → (level : ℕ × ℕ) → level.0 < length domains → is_past_path domains level ≡ false
    → is_within (sizes maps) level ≡ true
within domains maps same level there past =
    ap (λ s. is_within s level) same ∙ (ap (λ o. has_place_in o level.1)
    (slice_get-map (λ (def : DomainDef). size_of_kind def.map) domains level.0)
    ∙ by (slice_get domains level.0) refl past)
  where
    by : (o : Option DomainDef) → slice_get domains level.0 ≡ o → is_past_domain o level.1 ≡ false
        → has_place_in (option_map (λ (def : DomainDef). size_of_kind def.map) o) level.1 ≡ true
    by (Some def) is e = fits def.map level.1 e
    by None is e = absurd (omega (arith, none_past domains level.0 is, there))

abbrev AllFree : List DomainMap → List (ℕ × ℕ) → Type 0
AllFree maps [] = Unit {0}
AllFree maps (level ∷ levels) = (virq_at maps level.0 level.1 ≡ None) × AllFree maps levels

both_false : (a b : Bool) → a || b ≡ false → (a ≡ false) × (b ≡ false)
both_false true b e = absurd (false≢true (sym e))
both_false false b e = (refl, e)

has_room : (domains : List DomainDef) (maps : List DomainMap) → sizes maps ≡ map (λ def. size_of_kind def.map) domains → (path : List (ℕ × ℕ))
    → Falls (places path) → AllBelow (length domains) (places path) → list_any (is_past_path domains) path ≡ false → AllFree maps path → HasRoom maps path
has_room domains maps same [] falls there past free = tt
has_room domains maps same (level ∷ rest) falls there past free =
    let p = both_false (is_past_path domains level) (list_any (is_past_path domains) rest) past in
    (within domains maps same level there.0 p.0, free.0, not_on level.0 level.1 rest falls.0, has_room domains maps same rest falls.1 there.1 p.1 free.1)

levels_free : (domains : List DomainDef) (maps : List DomainMap) (paths : Paths) → IsHierarchy domains maps paths
    → (ps : List ℕ) → AllFree maps (lowest_levels (in_use paths) ps)
levels_free domains maps paths h [] = tt
levels_free domains maps paths h (p ∷ ps) = (
  unused_none domains maps paths h p (lowest_unused (in_use paths) p)
      (lowest_is_unused p (in_use paths) (each_once domains maps paths h p)),
  levels_free domains maps paths h ps,
)

pub path_has_room : (domains : List DomainDef) (maps : List DomainMap) (paths : Paths) → IsHierarchy domains maps paths
    → (leaf : ℕ × ℕ) → leaf.0 < length domains
    → list_any (is_past_path domains) (path_of domains (in_use paths) leaf) ≡ false → virq_at maps leaf.0 leaf.1 ≡ None
    → HasRoom maps (path_of domains (in_use paths) leaf)
path_has_room domains maps paths h leaf there past free =
    let path = path_of domains (in_use paths) leaf in
    let goes = sym (places_of_path domains (in_use paths) leaf) in
    has_room domains maps h.sizes path (subst Falls goes (way_falls domains h.each most_levels (Some leaf.0)))
    (subst (AllBelow (length domains)) goes (way_below domains h.each most_levels (length domains) (Some leaf.0) there)) past
    (free, levels_free domains maps paths h (way 7 domains (parent_in (slice_get domains leaf.0))))

pub none_if : (o : Option ℕ) → is_some o ≡ false → o ≡ None
none_if None e = refl
none_if (Some x) e = absurd (false≢true (sym e))

-- ---- what an allocation knows, and its due answer

pub masks_at : (domains ds : List DomainDef) (place : ℕ) (r : Bool)
    → r ≡ is_some (masking_kind (kinds_from ds (Some place))) → ds ≡ domains → r ≡ true
    → is_some (masking_kind (kinds_from domains (Some place))) ≡ true
masks_at domains ds place r is same on = ap (λ xs. is_some (masking_kind (kinds_from xs (Some place)))) (sym same) ∙ (sym is ∙ on)

pub past_at : (domains ds : List DomainDef) (path own : List (ℕ × ℕ)) (r : Bool) → r ≡ list_any (is_past_path ds) path
    → ds ≡ domains → path ≡ own → r ≡ false → list_any (is_past_path domains) own ≡ false
past_at domains ds path own r is same at off = ap (list_any (is_past_path domains)) (sym at)
    ∙ (ap (λ xs. list_any (is_past_path xs) path) (sym same) ∙ (sym is ∙ off))

not_none : {A : Type 0} (o : Option A) → is_some o ≡ true → is_none o ≡ false
not_none (Some x) e = refl
not_none None e = absurd (false≢true e)

by_tests : (a b c : Bool) (n virq : ℕ) (path : List (ℕ × ℕ)) → a ≡ false → b ≡ false
    → answer_by (cond a (placements.Refused reasons.NoMask)
    (cond b (placements.Refused reasons.OutOfRange)
    (cond c (placements.Refused reasons.Taken) (placements.Mapped n path)))) virq
    ≡ cond c allocs.Taken (allocs.Ok virq)
by_tests true b c n virq path e f = absurd (false≢true (sym e))
by_tests false true c n virq path e f = absurd (false≢true (sym f))
by_tests false false true n virq path e f = refl
by_tests false false false n virq path e f = refl

due : (h : HierarchySeen) (leaf : ℕ × ℕ) → is_some (masking_kind (kinds_from h.domains (Some leaf.0))) ≡ true
    → list_any (is_past_path h.domains) (path_of h.domains (in_use h.paths) leaf) ≡ false
    → alloc_answer h leaf ≡ cond (is_used (in_use h.paths) leaf.0 leaf.1) allocs.Taken (allocs.Ok (lowest_virq h.paths))
due h leaf masks past =
    by_tests (is_none (masking_kind (kinds_from h.domains (Some leaf.0))))
    (list_any (is_past_path h.domains) (path_of h.domains (in_use h.paths) leaf))
    (is_used (in_use h.paths) leaf.0 leaf.1)
    (count_of_mapped (in_use h.paths) + 1) (lowest_virq h.paths) (path_of h.domains (in_use h.paths) leaf)
    (not_none (masking_kind (kinds_from h.domains (Some leaf.0))) masks) past

pub taken_due : (domains : List DomainDef) (maps : List DomainMap) (paths : Paths) → IsHierarchy domains maps paths
    → (leaf : ℕ × ℕ) → is_some (masking_kind (kinds_from domains (Some leaf.0))) ≡ true
    → list_any (is_past_path domains) (path_of domains (in_use paths) leaf) ≡ false
    → is_some (virq_at maps leaf.0 leaf.1) ≡ true → alloc_answer (record { domains = domains; paths = paths }) leaf
    ≡ allocs.Taken
taken_due domains maps paths h leaf masks past used =
    due (record { domains = domains; paths = paths }) leaf masks past
    ∙ ap (λ b. cond b allocs.Taken (allocs.Ok (lowest_virq paths)))
    (some_used domains maps paths h leaf.0 leaf.1 used)

pub ok_due : (domains : List DomainDef) (maps : List DomainMap) (paths : Paths) → IsHierarchy domains maps paths
    → (leaf : ℕ × ℕ) → is_some (masking_kind (kinds_from domains (Some leaf.0))) ≡ true
    → list_any (is_past_path domains) (path_of domains (in_use paths) leaf) ≡ false → virq_at maps leaf.0 leaf.1 ≡ None
    → alloc_answer (record { domains = domains; paths = paths }) leaf ≡ allocs.Ok (lowest_virq paths)
ok_due domains maps paths h leaf masks past free =
    due (record { domains = domains; paths = paths }) leaf masks past
    ∙ ap (λ b. cond b allocs.Taken (allocs.Ok (lowest_virq paths)))
    (none_unused domains maps paths h leaf.0 leaf.1 free)

pub keeps_same : (domains : List DomainDef) (maps new : List DomainMap) (paths after : Paths)
    → IsHierarchy domains maps paths → sizes new ≡ sizes maps → ((d k : ℕ) → virq_at new d k ≡ virq_at maps d k)
    → after ≡ paths
    → IsHierarchy domains new after
keeps_same domains maps new paths after h same numbers at = subst (IsHierarchy domains new) (sym at) (record {
  each = h.each;
  sizes = same ∙ h.sizes;
  mapped = λ d k v e. h.mapped d k v (sym (numbers d k) ∙ e);
  told = λ d k v e. numbers d k ∙ h.told d k v e;
  placed = h.placed;
})

-- ---- a path is placed

pub virq_free : (paths : Paths) → path_in paths (lowest_virq paths) ≡ None
virq_free paths = ap (path_in paths) (add-one (first_free paths)) ∙ free_slot paths

pub virq_taken : (paths : Paths) (path : List (ℕ × ℕ)) → path_in (placed paths path) (lowest_virq paths) ≡ Some path
virq_taken paths path = ap (path_in (placed paths path)) (add-one (first_free paths)) ∙ placed_here paths path

other_virq : (paths : Paths) (path : List (ℕ × ℕ)) (v : ℕ) → v ≢ lowest_virq paths → path_in (placed paths path) v ≡ path_in paths v
other_virq paths path zero other = refl
other_virq paths path (suc i) other = placed_elsewhere paths path i (λ e. other (ap suc e ∙ sym (add-one (first_free paths))))

-- the path of each virq once the lowest that isn't in use has taken one
pub path_after : (paths : Paths) (path : List (ℕ × ℕ)) (v : ℕ) → path_in (placed paths path) v ≡ cond (v == lowest_virq paths) (Some path) (path_in paths v)
path_after paths path v = by (v == lowest_virq paths) refl
  where
    by : (t : Bool) → (v == lowest_virq paths) ≡ t → path_in (placed paths path) v ≡ cond t (Some path) (path_in paths v)
    by true e = ap (path_in (placed paths path)) (eqb-true v (lowest_virq paths) e) ∙ virq_taken paths path
    by false e = other_virq paths path v (eqb-false v (lowest_virq paths) e)

-- what was written is what the paths say then
pub keeps_placed : (domains : List DomainDef) (maps new : List DomainMap) (paths : Paths) (path : List (ℕ × ℕ))
    → IsHierarchy domains maps paths → sizes new ≡ sizes maps
    → ((d k : ℕ) → virq_at new d k ≡ with_path path (lowest_virq paths) (virq_at maps) d k)
    → ((d k : ℕ) → is_on path d k ≡ true → virq_at maps d k ≡ None) → IsPlaced domains path
    → IsHierarchy domains new (placed paths path)
keeps_placed domains maps new paths path h same written free own = record {
  each = h.each;
  sizes = same ∙ h.sizes;
  mapped = mapped;
  told = told;
  placed = placed_all;
}
  where
    mapped : (d k v : ℕ) → virq_at new d k ≡ Some v → has_level (path_in (placed paths path) v) d k ≡ true
    mapped d k v at = by (is_on path d k) refl (sym (written d k) ∙ at)
      where
        by : (b : Bool) → is_on path d k ≡ b → cond b (Some (lowest_virq paths)) (virq_at maps d k) ≡ Some v
            → has_level (path_in (placed paths path) v) d k ≡ true
        by true on e =
            let same : v ≡ lowest_virq paths = cc in
            ap (λ x. has_level (path_in (placed paths path) x) d k) same ∙ (ap (λ o. has_level o d k) (virq_taken paths path) ∙ on)
        by false off e =
            let was : has_level (path_in paths v) d k ≡ true = h.mapped d k v e in
            let other : v ≢ lowest_virq paths = λ same. false≢true
            (sym (ap (λ x. has_level (path_in paths x) d k) same ∙ ap (λ o. has_level o d k) (virq_free paths))
            ∙ was) in
            ap (λ o. has_level o d k) (other_virq paths path v other) ∙ was

    told : (d k v : ℕ) → has_level (path_in (placed paths path) v) d k ≡ true → virq_at new d k ≡ Some v
    told d k v on = by (v == lowest_virq paths) refl
      where
        by : (t : Bool) → (v == lowest_virq paths) ≡ t → virq_at new d k ≡ Some v
        by true e =
            let same : v ≡ lowest_virq paths = eqb-true v (lowest_virq paths) e in
            let here : is_on path d k ≡ true = sym (ap (λ x. has_level (path_in (placed paths path) x) d k) same
            ∙ ap (λ o. has_level o d k) (virq_taken paths path)) ∙ on in
            written d k ∙ (ap (λ b. cond b (Some (lowest_virq paths)) (virq_at maps d k)) here ∙ ap (λ x. Some x) (sym same))
        by false e =
            let was : has_level (path_in paths v) d k ≡ true
            = sym (ap (λ o. has_level o d k) (other_virq paths path v (eqb-false v (lowest_virq paths) e))) ∙ on in
            let at : virq_at maps d k ≡ Some v = h.told d k v was in
            written d k ∙ off (is_on path d k) refl at
          where
            off : (b : Bool) → is_on path d k ≡ b → virq_at maps d k ≡ Some v → cond b (Some (lowest_virq paths)) (virq_at maps d k) ≡ Some v
            off true here at = let none : virq_at maps d k ≡ None = free d k here in absurd cc
            off false here at = at

    placed_all : (v : ℕ) (p : List (ℕ × ℕ)) → path_in (placed paths path) v ≡ Some p → IsPlaced domains p
    placed_all v p at = by (v == lowest_virq paths) refl
      where
        by : (t : Bool) → (v == lowest_virq paths) ≡ t → IsPlaced domains p
        by true e =
            let here : Some path ≡ Some p = sym (ap (path_in (placed paths path)) (eqb-true v (lowest_virq paths) e) ∙ virq_taken paths path) ∙ at in
            let same : path ≡ p = cc in
            subst (IsPlaced domains) same own
        by false e = h.placed v p (sym (other_virq paths path v (eqb-false v (lowest_virq paths) e)) ∙ at)

-- ---- a path is given up

freed_here : (paths : Paths) (i : ℕ) → slot (set paths i None) i ≡ None
freed_here [] i = refl
freed_here (p ∷ ps) zero = refl
freed_here (p ∷ ps) (suc i) = freed_here ps i

freed_elsewhere : (paths : Paths) (i j : ℕ) → j ≢ i → slot (set paths i None) j ≡ slot paths j
freed_elsewhere [] i j other = refl
freed_elsewhere (p ∷ ps) zero zero other = absurd (other refl)
freed_elsewhere (p ∷ ps) zero (suc j) other = refl
freed_elsewhere (p ∷ ps) (suc i) zero other = refl
freed_elsewhere (p ∷ ps) (suc i) (suc j) other = freed_elsewhere ps i j (λ e. other (ap suc e))

other_path : (paths : Paths) (i u : ℕ) → u ≢ suc i → path_in (set paths i None) u ≡ path_in paths u
other_path paths i zero other = refl
other_path paths i (suc j) other = freed_elsewhere paths i j (λ e. other (ap suc e))

pub keeps_freed : (domains : List DomainDef) (maps new : List DomainMap) (paths : Paths) (path : List (ℕ × ℕ)) (i : ℕ)
    → IsHierarchy domains maps paths → sizes new ≡ sizes maps
    → ((d k : ℕ) → virq_at new d k ≡ without_path path (virq_at maps) d k) → slot paths i ≡ Some path → IsHierarchy domains new (set paths i None)
keeps_freed domains maps new paths path i h same given here = record {
  each = h.each;
  sizes = same ∙ h.sizes;
  mapped = mapped;
  told = told;
  placed = placed_all;
}
  where
    mapped : (d k v : ℕ) → virq_at new d k ≡ Some v → has_level (path_in (set paths i None) v) d k ≡ true
    mapped d k v at = by (is_on path d k) refl (sym (given d k) ∙ at)
      where
        by : (b : Bool) → is_on path d k ≡ b → cond b None (virq_at maps d k) ≡ Some v → has_level (path_in (set paths i None) v) d k ≡ true
        by true on e = absurd cc
        by false off e =
            let was : has_level (path_in paths v) d k ≡ true = h.mapped d k v e in
            let other : v ≢ suc i = λ same. false≢true (sym (ap (λ x. has_level (path_in paths x) d k) same ∙ (ap (λ o. has_level o d k) here ∙ off)) ∙ was) in
            ap (λ o. has_level o d k) (other_path paths i v other) ∙ was

    told : (d k v : ℕ) → has_level (path_in (set paths i None) v) d k ≡ true → virq_at new d k ≡ Some v
    told d k v on = by (v == suc i) refl
      where
        by : (t : Bool) → (v == suc i) ≡ t → virq_at new d k ≡ Some v
        by true e = absurd (false≢true (sym (ap (λ x. has_level (path_in (set paths i None) x) d k)
            (eqb-true v (suc i) e) ∙ ap (λ o. has_level o d k) (freed_here paths i)) ∙ on))
        by false e =
            let was : has_level (path_in paths v) d k ≡ true = sym (ap (λ o. has_level o d k) (other_path paths i v (eqb-false v (suc i) e))) ∙ on in
            given d k ∙ off (is_on path d k) refl (h.told d k v was)
          where
            off : (b : Bool) → is_on path d k ≡ b → virq_at maps d k ≡ Some v → cond b None (virq_at maps d k) ≡ Some v
            off true is at =
                let own : virq_at maps d k ≡ Some (suc i) = h.told d k (suc i) (ap (λ o. has_level o d k) here ∙ is) in
                let same : v ≡ suc i = cc in
                absurd (eqb-false v (suc i) e same)
            off false is at = at

    placed_all : (v : ℕ) (p : List (ℕ × ℕ)) → path_in (set paths i None) v ≡ Some p → IsPlaced domains p
    placed_all v p at = by (v == suc i) refl
      where
        by : (t : Bool) → (v == suc i) ≡ t → IsPlaced domains p
        by true e =
            let none : None ≡ Some p = sym (ap (path_in (set paths i None)) (eqb-true v (suc i) e) ∙ freed_here paths i) ∙ at in
            absurd cc
        by false e = h.placed v p (sym (other_path paths i v (eqb-false v (suc i) e)) ∙ at)

-- ---- a domain is added

get_before : (domains : List DomainDef) (def : DomainDef) (i : ℕ) → i < length domains → slice_get (domains ++ def ∷ []) i ≡ slice_get domains i
get_before [] def i within = absurd (omega (arith, within))
get_before (d ∷ ds) def zero within = refl
get_before (d ∷ ds) def (suc i) within = get_before ds def i (omega (arith, within))

way_stays : (domains : List DomainDef) (def : DomainDef) → EachAfter IsDomainAfter domains → (n : ℕ) (at : Option ℕ)
    → IsBelow (length domains) at → way n (domains ++ def ∷ []) at ≡ way n domains at
way_stays domains def each zero at there = refl
way_stays domains def each (suc n) None there = refl
way_stays domains def each (suc n) (Some p) there =
    ap (λ ps. p ∷ ps) (ap (λ o. way n (domains ++ def ∷ []) (parent_in o)) (get_before domains def p there)
    ∙ way_stays domains def each n (parent_in (slice_get domains p)) (parent_there domains each p there))

kinds_stay : (domains : List DomainDef) (def : DomainDef) (path : List (ℕ × ℕ))
    → AllBelow (length domains) (places path) → kinds_on (domains ++ def ∷ []) path ≡ kinds_on domains path
kinds_stay domains def [] there = refl
kinds_stay domains def (level ∷ levels) there =
    ap (λ o. kind_in o ∷ kinds_on (domains ++ def ∷ []) levels) (get_before domains def level.0 there.0)
    ∙ ap (λ ks. kind_at domains level ∷ ks) (kinds_stay domains def levels there.1)

path_there : (domains : List DomainDef) (path : List (ℕ × ℕ)) → EachAfter IsDomainAfter domains → IsPlaced domains path
    → AllBelow (length domains) (places path)
path_there domains path each own = subst (AllBelow (length domains)) (sym own.way)
    (way_below domains each most_levels (length domains) (first_place path) own.there)

longer : (domains : List DomainDef) (def : DomainDef) (at : Option ℕ) → IsBelow (length domains) at → IsBelow (length (domains ++ def ∷ [])) at
longer domains def None h = h
longer domains def (Some p) h = omega (arith, h, length_push domains def)

placed_stays : (domains : List DomainDef) (def : DomainDef) (path : List (ℕ × ℕ)) → EachAfter IsDomainAfter domains
    → IsPlaced domains path → IsPlaced (domains ++ def ∷ []) path
placed_stays domains def path each own = record {
  there = longer domains def (first_place path) own.there;
  way = own.way ∙ sym (way_stays domains def each most_levels (first_place path) own.there);
  masks = ap (λ ks. is_some (masking_kind ks)) (kinds_stay domains def path (path_there domains path each own)) ∙ own.masks;
}

pub keeps_added : (domains : List DomainDef) (def : DomainDef) (maps new : List DomainMap) (paths : Paths)
    → IsHierarchy domains maps paths → IsDomainAfter domains def
    → sizes new ≡ sizes maps ++ size_of_kind def.map ∷ [] → ((d k : ℕ) → virq_at new d k ≡ virq_at maps d k) → IsHierarchy (domains ++ def ∷ []) new paths
keeps_added domains def maps new paths h allowed longer_by numbers = record {
  each = each_more IsDomainAfter domains def h.each allowed;
  sizes = longer_by ∙ (ap (λ s. s ++ size_of_kind def.map ∷ []) h.sizes ∙ sym (map-append (λ (d : DomainDef). size_of_kind d.map) domains (def ∷ [])));
  mapped = λ d k v e. h.mapped d k v (sym (numbers d k) ∙ e);
  told = λ d k v e. numbers d k ∙ h.told d k v e;
  placed = λ v p at. placed_stays domains def p h.each (h.placed v p at);
}
