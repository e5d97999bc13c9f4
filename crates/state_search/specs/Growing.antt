-- What one state adds: the states after it, and the labels that come there first.
use Rattle.std.specs.Prelude.{◌≡◌, ◌<◌, ◌⊎◌, ◌≢◌, ℕ, Bool, true, false, Option, Some, List, []}
use Rattle.std.specs.Prelude.{◌∷◌, ◌++◌, length, slice_get}
use Rattle.state_search.specs.declared.firsts.First.{First}
use Rattle.state_search.specs.declared.states.Came.{Came}
use Rattle.state_search.specs.Firsts.{IsNoted, AreApart}
use Rattle.state_search.specs.Paths.{IsEachOnce, states_of}

-- the item stands in the list
abbrev pub IsIn : {X : Type 0} → List X → X → Type 0
IsIn xs x = (k : ℕ) × (slice_get xs k ≡ Some x)

module _ {L : Type 0} where
  -- each state came after an earlier one
  abbrev pub AreRooted : List (List ℕ × Option (Came L)) → Type 0
  AreRooted es = (k : ℕ) (words : List ℕ) (came : Came L)
      → slice_get es k ≡ Some (words, Some came) → came.from < k

  -- a state that was there stays once; a new one stands at the end, if it fits
  abbrev pub IsPut : Came L → List ℕ → ℕ → List (List ℕ × Option (Came L))
      → List (List ℕ × Option (Came L)) → Bool → Type 0
  IsPut came words most old new fits =
      ((fits ≡ true) × IsIn (states_of old) words × (new ≡ old))
      ⊎ ((fits ≡ false) × (length old ≡ most) × (IsIn (states_of old) words → ⊥) × (new ≡ old))
      ⊎ ((fits ≡ true) × (length old ≢ most) × (IsIn (states_of old) words → ⊥)
      × (new ≡ old ++ (words, Some came) ∷ []))

  -- a label was found that leads to a state that isn't there
  abbrev pub LeavesOne : List (L × List ℕ) → List (List ℕ × Option (Came L)) → Type 0
  LeavesOne found es = (m : ℕ) × (l : L) × (words : List ℕ)
      × (slice_get found m ≡ Some (l, words)) × (IsIn (states_of es) words → ⊥)

  -- the states of the first n labels found after the state at `from` are there, each once; nothing
  -- else was added
  pub record ArePut (from : ℕ) (found : List (L × List ℕ)) (n : ℕ)
      (old new : List (List ℕ × Option (Came L))) : Type 0 where
    pub added : List (List ℕ × Option (Came L))
    pub grows : new ≡ old ++ added
    pub each : (k : ℕ) (e : List ℕ × Option (Came L)) → slice_get added k ≡ Some e
        → (m : ℕ) × (l : L) × (slice_get found m ≡ Some (l, e.0))
        × (e.1 ≡ Some (record { from = from; label = l }))
    pub all : (m : ℕ) (l : L) (words : List ℕ) → m < n → slice_get found m ≡ Some (l, words)
        → IsIn (states_of new) words
    pub apart : IsEachOnce (states_of old) → IsEachOnce (states_of new)

  -- the first n labels found are noted, the new ones with this place; nothing else was added
  pub record AreNoted (eq : L → L → Bool) (place : ℕ) (found : List (L × List ℕ)) (n : ℕ)
      (old new : List (First L)) : Type 0 where
    pub added : List (First L)
    pub grows : new ≡ old ++ added
    pub each : (k : ℕ) (f : First L) → slice_get added k ≡ Some f
        → (f.place ≡ place) × (m : ℕ) × (words : List ℕ)
        × (slice_get found m ≡ Some (f.label, words))
    pub all : (m : ℕ) (l : L) (words : List ℕ) → m < n → slice_get found m ≡ Some (l, words)
        → IsNoted eq new l
    pub apart : AreApart eq old → AreApart eq new
