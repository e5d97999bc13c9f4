-- Rows of numbers, one after another in one list.
use Rattle.std.specs.Prelude.{◌≡◌, ◌≤◌, ℕ, List, Vec, map, length, slice_range, slice_get, Some}
use Rattle.std.specs.Prelude.{All}
use Rattle.std.specs.List.{flat_map}
use Rattle.state_search.specs.declared.found.Row.{Row}
use Rattle.state_search.specs.Packed.{IsPacked, unpacked}

module _ {L : Type 0} where
  -- each row's label with its numbers
  abbrev pub found_in : List (Row L) → List ℕ → List (L × List ℕ)
  found_in rows words = map (λ r. (r.label, slice_range words r.from r.to)) rows

  -- each row lies within the list
  abbrev pub AreWithin : List (Row L) → List ℕ → Type 0
  AreWithin rows words = All (λ r. (r.from ≤ r.to) × (r.to ≤ length words)) rows

  -- the list is the numbers of the rows, and no others
  pub record AreOf (rows : List (Row L)) (words : List ℕ) : Type 0 where
    pub within : AreWithin rows words
    pub all : flat_map (λ f. f.1) (found_in rows words) ≡ words

-- the rows of a map from packed numbers
module _ {V Z : Type 0} where
  abbrev pub rows_of : List (Vec ℕ Z × V) → List (List ℕ × V)
  rows_of es = map (λ e. (unpacked e.0.items, e.1)) es

  -- each key is some packed numbers
  abbrev pub ArePacked : List (Vec ℕ Z × V) → Type 0
  ArePacked es =
      (k : ℕ) (e : Vec ℕ Z × V) → slice_get es k ≡ Some e → IsPacked e.0.items
