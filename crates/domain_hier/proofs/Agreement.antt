-- What the maps have is what the paths in use say.
use Rattle.std.proofs.Common.{◌≡◌, ℕ, zero, suc, ◌+◌, Bool, true, false, ◌||◌, is_some, Option, Some, None, List, [], ◌∷◌, refl, sym, ap, subst, ◌∙◌}
use Rattle.std.proofs.lemmas.Bool.{false≢true}
use Rattle.irq_base.specs.declared.domains.DomainDef.{DomainDef}
use Rattle.domain_maps.specs.Numbers.{virq_at, is_on}
use Rattle.domain_maps.specs.declared.map.DomainMap.{DomainMap}
use Rattle.domain_rules.specs.Layout.{is_used}
use Rattle.domain_rules.specs.Paths.{most_levels}
use Rattle.domain_hier.specs.Hierarchies.{IsHierarchy, has_level, first_place}
use Rattle.domain_hier.specs.PathsInUse.{slot, path_in, in_use, in_use_from}
use Rattle.domain_hier.proofs.Counting.{OneEach}
use Rattle.domain_hier.proofs.Slots.{Paths}
use Rattle.domain_hier.proofs.Ways.{Falls, places, way_falls, one_number}

or_true : (a b : Bool) → b ≡ true → a || b ≡ true
or_true true b e = refl
or_true false b e = e

slot_used : (n i d k : ℕ) (paths : Paths) → has_level (slot paths i) d k ≡ true → is_used (in_use_from n paths) d k ≡ true
slot_used n i d k [] e = absurd (false≢true e)
slot_used n zero d k (None ∷ paths) e = absurd (false≢true e)
slot_used n (suc i) d k (None ∷ paths) e = slot_used (n + 1) i d k paths e
slot_used n zero d k (Some path ∷ paths) e = ap (λ b. b || is_used (in_use_from (n + 1) paths) d k) e
slot_used n (suc i) d k (Some path ∷ paths) e = or_true (is_on path d k) (is_used (in_use_from (n + 1) paths) d k) (slot_used (n + 1) i d k paths e)

used_slot : (n d k : ℕ) (paths : Paths) → is_used (in_use_from n paths) d k ≡ true → (i : ℕ) × (has_level (slot paths i) d k ≡ true)
used_slot n d k [] e = absurd (false≢true e)
used_slot n d k (None ∷ paths) e = let rest = used_slot (n + 1) d k paths e in (suc rest.0, rest.1)
used_slot n d k (Some path ∷ paths) e = by (is_on path d k) refl e (λ on. used_slot (n + 1) d k paths on)
  where
    by : (b : Bool) → is_on path d k ≡ b → b || is_used (in_use_from (n + 1) paths) d k ≡ true
        → (is_used (in_use_from (n + 1) paths) d k ≡ true → (i : ℕ) × (has_level (slot paths i) d k ≡ true))
        → (i : ℕ) × (has_level (slot (Some path ∷ paths) i) d k ≡ true)
    by true is on rest = (zero, is)
    by false is on rest = let at = rest on in (suc at.0, at.1)

one_each : (n d : ℕ) (paths : Paths) → ((i : ℕ) (path : List (ℕ × ℕ)) → slot paths i ≡ Some path → Falls (places path)) → OneEach d (in_use_from n paths)
one_each n d [] falls = tt
one_each n d (None ∷ paths) falls = one_each (n + 1) d paths (λ i path is. falls (suc i) path is)
one_each n d (Some path ∷ paths) falls =
    ((λ j k a b. one_number d j k path (falls zero path refl) a b), one_each (n + 1) d paths (λ i path is. falls (suc i) path is))

-- a path in use has a domain once
pub path_falls : (domains : List DomainDef) (maps : List DomainMap) (paths : Paths) → IsHierarchy domains maps paths
    → (virq : ℕ) (path : List (ℕ × ℕ)) → path_in paths virq ≡ Some path → Falls (places path)
path_falls domains maps paths h virq path is = subst Falls (sym (h.placed virq path is).way) (way_falls domains h.each most_levels (first_place path))

pub each_once : (domains : List DomainDef) (maps : List DomainMap) (paths : Paths) → IsHierarchy domains maps paths → (d : ℕ) → OneEach d (in_use paths)
each_once domains maps paths h d = one_each 1 d paths (λ i path is. path_falls domains maps paths h (suc i) path is)

pub mapped_used : (domains : List DomainDef) (maps : List DomainMap) (paths : Paths) → IsHierarchy domains maps paths
    → (d k v : ℕ) → virq_at maps d k ≡ Some v → is_used (in_use paths) d k ≡ true
mapped_used domains maps paths h d k v is = by v (h.mapped d k v is)
  where
    by : (v : ℕ) → has_level (path_in paths v) d k ≡ true → is_used (in_use paths) d k ≡ true
    by zero e = absurd (false≢true e)
    by (suc i) e = slot_used 1 i d k paths e

pub some_used : (domains : List DomainDef) (maps : List DomainMap) (paths : Paths) → IsHierarchy domains maps paths
    → (d k : ℕ) → is_some (virq_at maps d k) ≡ true → is_used (in_use paths) d k ≡ true
some_used domains maps paths h d k is = by (virq_at maps d k) refl is
  where
    by : (o : Option ℕ) → virq_at maps d k ≡ o → is_some o ≡ true → is_used (in_use paths) d k ≡ true
    by (Some v) at e = mapped_used domains maps paths h d k v at
    by None at e = absurd (false≢true e)

pub none_unused : (domains : List DomainDef) (maps : List DomainMap) (paths : Paths) → IsHierarchy domains maps paths
    → (d k : ℕ) → virq_at maps d k ≡ None → is_used (in_use paths) d k ≡ false
none_unused domains maps paths h d k none = by (is_used (in_use paths) d k) refl
  where
    by : (b : Bool) → is_used (in_use paths) d k ≡ b → b ≡ false
    by true is =
        let at = used_slot 1 d k paths is in
        let some : virq_at maps d k ≡ Some (suc at.0) = h.told d k (suc at.0) at.1 in
        absurd cc
    by false is = refl

pub unused_none : (domains : List DomainDef) (maps : List DomainMap) (paths : Paths) → IsHierarchy domains maps paths
    → (d k : ℕ) → is_used (in_use paths) d k ≡ false → virq_at maps d k ≡ None
unused_none domains maps paths h d k unused = by (virq_at maps d k) refl
  where
    by : (o : Option ℕ) → virq_at maps d k ≡ o → o ≡ None
    by (Some v) at = absurd (false≢true (sym unused ∙ mapped_used domains maps paths h d k v at))
    by None at = refl
