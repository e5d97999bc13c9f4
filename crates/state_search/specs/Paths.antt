-- A space, and what a search through it found. A path is its labels, the newest first. `can` says
-- which labels may come after a path, `node` which numbers the state has to which the path leads.
use Rattle.std.specs.Prelude.{◌≡◌, ◌≤◌, ◌<◌, ℕ, ◌+◌, Option, Some, None, List, [], ◌∷◌, ◌++◌}
use Rattle.std.specs.Prelude.{length, map, take, get_or, slice_get, All, Contains}
use Rattle.state_search.specs.declared.states.Came.{Came}

module _ {L : Type 0} where
  -- each label of the path may come after the labels before it
  abbrev pub IsPath : (L → List L → Type 0) → List L → Type 0
  IsPath can [] = Unit {0}
  IsPath can (l ∷ g) = can l g × IsPath can g

  -- the path of a state that was reached so, from a state with one of these paths
  abbrev pub path_by : List (List L) → Option (Came L) → List L
  path_by ps None = []
  path_by ps (Some came) = came.label ∷ get_or ps came.from []

  -- these paths, and the paths of the states, each by how the state was reached
  abbrev pub paths_from : List (List L) → List (List ℕ × Option (Came L)) → List (List L)
  paths_from ps [] = ps
  paths_from ps (e ∷ es) = paths_from (ps ++ path_by ps e.1 ∷ []) es

  abbrev pub paths_of : List (List ℕ × Option (Came L)) → List (List L)
  paths_of es = paths_from [] es

  abbrev pub states_of : List (List ℕ × Option (Came L)) → List (List ℕ)
  states_of es = map (λ e. e.0) es

-- the length is below the cut; without a cut each length is
abbrev pub IsBelow : Option ℕ → ℕ → Type 0
IsBelow None n = Unit {0}
IsBelow (Some d) n = n < d

-- no item stands at two places
abbrev pub IsEachOnce : {X : Type 0} → List X → Type 0
IsEachOnce {X} xs = (j k : ℕ) (x : X) → slice_get xs j ≡ Some x → slice_get xs k ≡ Some x → j ≡ k

module _ {L : Type 0} (can : L → List L → Type 0) where
  -- n labels may come after the path
  pub record IsCount (g : List L) (n : ℕ) : Type 0 where
    pub labels : List L
    pub once : IsEachOnce labels
    pub each : All (λ l. can l g) labels
    pub all : (l : L) → can l g → Contains labels l
    pub many : length labels ≡ n

  -- for each of the first paths, how many labels may come after it
  abbrev pub AreCounted : List (List L) → List ℕ → Type 0
  AreCounted paths counts = (k : ℕ) (p : List L) (n : ℕ) → slice_get paths k ≡ Some p
      → slice_get counts k ≡ Some n → IsCount p n

module _ {L : Type 0} (can : L → List L → Type 0) (node : List L → List ℕ) where
  -- exactly the labels that may come after the path, each once, with the state to which it leads
  pub record AreSteps (g : List L) (found : List (L × List ℕ)) : Type 0 where
    pub each : All (λ f. can f.0 g × (node (f.0 ∷ g) ≡ f.1)) found
    pub all : (l : L) → can l g → Contains (map (λ f. f.0) found) l
    pub once : IsEachOnce (map (λ f. f.0) found)

  -- after the path at the place, if there is one, a label may come that leads to a state to which
  -- none of the paths leads
  abbrev pub LeavesOut : List (List L) → ℕ → Type 0
  LeavesOut paths k = (p : List L) → slice_get paths k ≡ Some p
      → (l : L) × can l p × (Contains (map node paths) (node (l ∷ p)) → ⊥)

  -- a path of fewer than n labels leads to these numbers
  abbrev pub IsReached : ℕ → List ℕ → Type 0
  IsReached n words = (g : List L) × IsPath can g × (node g ≡ words) × (length g < n)

  -- There is one path to each state, and no path to it is shorter. The first `looked` states were
  -- looked at for what comes next, and what comes next is there: they are all states, or at least
  -- all with paths shorter than the cut; no path is more than one longer than the cut.
  pub record Searches (paths : List (List L)) (looked : ℕ) (cut : Option ℕ) : Type 0 where
    pub paths_are : All (IsPath can) paths
    pub apart : IsEachOnce (map node paths)
    pub least : All (λ p. (h : List L) → IsPath can h → node h ≡ node p → length p ≤ length h) paths
    pub rising : (j k : ℕ) (p q : List L) → j ≤ k → slice_get paths j ≡ Some p
        → slice_get paths k ≡ Some q → length p ≤ length q
    pub short : (k : ℕ) (p : List L) → slice_get paths k ≡ Some p → length p ≤ k
    pub near : (k : ℕ) (p q : List L) → slice_get paths looked ≡ Some p
        → slice_get paths k ≡ Some q → length q ≤ length p + 1
    pub within : looked ≤ length paths
    pub closed : (k : ℕ) (p : List L) (l : L) → k < looked → slice_get paths k ≡ Some p → can l p
        → Contains (map node paths) (node (l ∷ p))
    pub whole : cut ≡ None → looked ≡ length paths
    pub all : (h : List L) → IsPath can h → IsBelow cut (length h)
        → Contains (map node (take looked paths)) (node h)

-- ---- what is wanted

module _ {L : Type 0} (can : L → List L → Type 0) (wanted : List L → Type 0) where
  -- the path at the place leads to a wanted state, and no path to one is shorter
  pub record IsNearest (paths : List (List L)) (k : ℕ) : Type 0 where
    pub path : List L
    pub there : slice_get paths k ≡ Some path
    pub is_wanted : wanted path
    pub least : (h : List L) → IsPath can h → wanted h → length path ≤ length h

  -- none of the states that were looked at is wanted, and none with a path shorter than the cut
  pub record NoneWanted (paths : List (List L)) (looked : ℕ) (cut : Option ℕ) : Type 0 where
    pub passed : (k : ℕ) (p : List L) → k < looked → slice_get paths k ≡ Some p → wanted p → ⊥
    pub below : (h : List L) → IsPath can h → IsBelow cut (length h) → wanted h → ⊥
