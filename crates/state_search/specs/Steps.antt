-- What holds while a search goes on.
use Rattle.std.specs.Prelude.{◌≡◌, ◌≤◌, ◌<◌, ◌+◌, ℕ, Bool, Some, List, [], ◌∷◌, length, map}
use Rattle.std.specs.Prelude.{slice_get}
use Rattle.state_search.specs.declared.firsts.First.{First}
use Rattle.state_search.specs.Firsts.{IsNotedAt, AreApart}
use Rattle.state_search.specs.Paths.{IsPath, AreCounted}
use Rattle.state_search.specs.Seen.{SearchSeen}

module _ {L : Type 0} where
  -- the first state alone, and nothing was looked at
  pub record IsStart (node : List L → List ℕ) (s : SearchSeen L) : Type 0 where
    pub paths : s.paths ≡ [] ∷ []
    pub states : s.states ≡ node [] ∷ []
    pub firsts : s.firsts ≡ []
    pub looked : s.looked ≡ 0
    pub counts : s.counts ≡ []

  module _ (can : L → List L → Type 0) (node : List L → List ℕ) where
    -- Of these paths, what comes next was looked at after the first `looked`.
    pub record AreUnder (looked : ℕ) (paths : List (List L)) : Type 0 where
      pub within : looked ≤ length paths
      pub start : slice_get paths 0 ≡ Some []
      pub paths_are : (k : ℕ) (p : List L) → slice_get paths k ≡ Some p → IsPath can p
      pub short : (k : ℕ) (p : List L) → slice_get paths k ≡ Some p → length p ≤ k
      pub apart : (j k : ℕ) (p q : List L) → slice_get paths j ≡ Some p
          → slice_get paths k ≡ Some q → node p ≡ node q → j ≡ k
      pub rising : (j k : ℕ) (p q : List L) → j ≤ k → slice_get paths j ≡ Some p
          → slice_get paths k ≡ Some q → length p ≤ length q
      -- each path is at most one longer than the path of the next state to be looked at
      pub near : (k : ℕ) (p q : List L) → slice_get paths looked ≡ Some p
          → slice_get paths k ≡ Some q → length q ≤ length p + 1
      -- the states that come after those that were looked at are there
      pub closed : (j : ℕ) (p : List L) → j < looked → slice_get paths j ≡ Some p
          → (g : List L) (l : L) → IsPath can g → node g ≡ node p → can l g
          → (k : ℕ) × (q : List L) × (slice_get paths k ≡ Some q) × (node q ≡ node (l ∷ g))
          × (length q ≤ length p + 1)

  module _ (eq : L → L → Bool) (can : L → List L → Type 0) (node : List L → List ℕ) where
    -- the labels that come after the first `looked` are noted
    pub record AreNotedUnder (looked : ℕ) (paths : List (List L)) (fs : List (First L))
        : Type 0 where
      pub noted : (j : ℕ) (p : List L) → j < looked → slice_get paths j ≡ Some p
          → (g : List L) (l : L) → IsPath can g → node g ≡ node p → can l g
          → IsNotedAt eq fs l (λ n. n ≤ j)
      pub each : (m : ℕ) (f : First L) → slice_get fs m ≡ Some f
          → (p : List L) × (slice_get paths f.place ≡ Some p) × can f.label p × (f.place ≤ looked)
      pub apart : AreApart eq fs
      pub rising : (j k : ℕ) (a b : First L) → j ≤ k → slice_get fs j ≡ Some a
          → slice_get fs k ≡ Some b → a.place ≤ b.place

    pub record IsUnder (s : SearchSeen L) : Type 0 where
      pub paths : AreUnder can node s.looked s.paths
      pub states : s.states ≡ map node s.paths
      pub firsts : AreNotedUnder s.looked s.paths s.firsts
      pub counts : AreCounted can s.paths s.counts
      pub counted : length s.counts ≡ s.looked

  -- the path leads to the state that is looked at next
  abbrev pub IsNext : (List L → List ℕ) → SearchSeen L → List L → Type 0
  IsNext node s g = slice_get s.states s.looked ≡ Some (node g)

  -- none of the states that were looked at is wanted, by whatever path it is reached
  abbrev pub NonePassed : (L → List L → Type 0) → (List L → List ℕ) → (List L → Type 0)
      → SearchSeen L → Type 0
  NonePassed can node wanted s = (k : ℕ) (g : List L) → k < s.looked
      → slice_get s.states k ≡ Some (node g) → IsPath can g → wanted g → ⊥
