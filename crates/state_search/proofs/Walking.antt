-- From a state back to the first one.
use Rattle.std.proofs.Common.{◌≡◌, ◌≤◌, ◌<◌, ◌+◌, ℕ, ◌⊎◌, inl, inr, Option, Some, None, List, [], ◌∷◌, length, get_or, slice_get, ap, arith}
use Rattle.std.proofs.lemmas.Bool.{cases_lt}
use Rattle.std.proofs.lemmas.Option.{slice_get-get_or, slice_get_within, slice_get_past}
use Rattle.std.specs.Option.{option_map}
use Rattle.state_search.specs.declared.states.Came.{Came}
use Rattle.state_search.specs.Paths.{LeavesOut, path_by, paths_of}
use Rattle.state_search.specs.Seen.{SearchSeen, cut_of}
use Rattle.state_search.proofs.Places.{one_at}
use Rattle.state_search.proofs.Rooted.{paths_long}

module _ {L : Type 0} (es : List (List ℕ × Option (Came L))) where
  pub paths_len : length (paths_of es) ≡ length es
  paths_len = let n : length (paths_of es) ≡ 0 + length es = paths_long [] es in omega (arith, n)

  -- the path at place k
  abbrev pub path_to : ℕ → List L
  path_to k = get_or (paths_of es) k []

  pub path_there : (k : ℕ) → k < length (paths_of es) → slice_get (paths_of es) k ≡ Some (path_to k)
  path_there k lt = slice_get-get_or (paths_of es) k [] lt

  -- one step back
  pub path_back : (k : ℕ) (came : Came L) → slice_get (paths_of es) k ≡ Some (path_by (paths_of es) (Some came)) → path_to k ≡ came.label ∷ path_to came.from
  path_back k came at = one_at (paths_of es) k (path_to k) (came.label ∷ path_to came.from)
      (path_there k (slice_get_within (paths_of es) k (came.label ∷ path_to came.from) at)) at

  pub path_first : (k : ℕ) → slice_get (paths_of es) k ≡ Some (path_by (paths_of es) None) → path_to k ≡ []
  path_first k at = one_at (paths_of es) k (path_to k) [] (path_there k (slice_get_within (paths_of es) k [] at)) at

pub leaves_none : {L : Type 0} (can : L → List L → Type 0) (node : List L → List ℕ) (s : SearchSeen L) → (s.looked < length s.paths → ⊥)
    → LeavesOut can node s.paths s.looked
leaves_none can node s closed p at = absurd (closed (slice_get_within s.paths s.looked p at))

-- nothing is cut once there is no state left
pub cut_none : {L : Type 0} (s : SearchSeen L) → (s.looked < length s.paths → ⊥) → cut_of s ≡ None
cut_none s closed = by (cases_lt s.looked (length s.paths))
  where
    by : (s.looked < length s.paths) ⊎ (length s.paths ≤ s.looked) → cut_of s ≡ None
    by (inl lt) = absurd (closed lt)
    by (inr past) = ap (option_map length) (slice_get_past s.paths s.looked past)
