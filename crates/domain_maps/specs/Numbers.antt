-- The reverse maps of a list of domains: the virq at each domain and hardware number, and what it
-- is to write a whole path into them or to give it up.
use Rattle.std.specs.Prelude.{◌≡◌, ℕ, Bool, true, false, ◌&&◌, ◌==◌, if◌then◌else◌, Option, Some}
use Rattle.std.specs.Prelude.{None, List, [], ◌∷◌, length, map, slice_get, slice_index_or}
use Rattle.std.specs.List.{list_any}
use Rattle.irq_base.specs.declared.domains.MapKind.{MapKind}
use Rattle.irq_base.specs.declared.domains.MapKind.TheVariants as kinds
use Rattle.revmap.specs.Answers.{entry_at, has_place}
use Rattle.domain_maps.specs.declared.map.DomainMap.{DomainMap}
use Rattle.domain_maps.specs.declared.map.DomainMap.TheVariants as maps

-- the virq at a hardware number of one map
abbrev pub map_at : DomainMap → ℕ → Option ℕ
map_at (maps.Linear m) hw = slice_index_or m hw None
map_at (maps.Tree m) hw = entry_at m hw

-- the size of a linear map
abbrev pub map_size : DomainMap → Option ℕ
map_size (maps.Linear m) = Some (length m)
map_size (maps.Tree m) = None

abbrev pub size_of_kind : MapKind → Option ℕ
size_of_kind (kinds.Linear size) = Some size
size_of_kind kinds.Tree = None

-- the sizes of all maps
abbrev pub sizes : List DomainMap → List (Option ℕ)
sizes maps = map map_size maps

abbrev pub virq_in : Option DomainMap → ℕ → Option ℕ
virq_in (Some m) hw = map_at m hw
virq_in None hw = None

-- the virq at a domain's place and a hardware number there
abbrev pub virq_at : List DomainMap → ℕ → ℕ → Option ℕ
virq_at maps domain hw = virq_in (slice_get maps domain) hw

abbrev pub has_place_in : Option (Option ℕ) → ℕ → Bool
has_place_in (Some size) hw = has_place size hw
has_place_in None hw = false

-- the domain is there, and has a place for the number
abbrev pub is_within : List (Option ℕ) → ℕ × ℕ → Bool
is_within sizes level = has_place_in (slice_get sizes level.0) level.1

abbrev pub is_level : ℕ → ℕ → ℕ × ℕ → Bool
is_level domain hw level = (level.0 == domain) && (level.1 == hw)

-- the path has the number at the domain
abbrev pub is_on : List (ℕ × ℕ) → ℕ → ℕ → Bool
is_on path domain hw = list_any (is_level domain hw) path

-- at each level of the path the number is within the domain's map and free there, and no level
-- stands twice
abbrev pub HasRoom : List DomainMap → List (ℕ × ℕ) → Type 0
HasRoom maps [] = Unit {0}
HasRoom maps (level ∷ levels) = (is_within (sizes maps) level ≡ true)
    × (virq_at maps level.0 level.1 ≡ None) × (is_on levels level.0 level.1 ≡ false)
    × HasRoom maps levels

-- what a number is mapped to after a path was written for a virq; below, after a path was given up
abbrev pub with_path : List (ℕ × ℕ) → ℕ → (ℕ → ℕ → Option ℕ) → ℕ → ℕ → Option ℕ
with_path path virq at domain hw = if is_on path domain hw then Some virq else at domain hw

abbrev pub without_path : List (ℕ × ℕ) → (ℕ → ℕ → Option ℕ) → ℕ → ℕ → Option ℕ
without_path path at domain hw = if is_on path domain hw then None else at domain hw
