-- The places at which labels came first.
use Rattle.std.specs.Prelude.{◌≡◌, ◌≤◌, ℕ, Bool, true, Option, Some, List, length, slice_get, All}
use Rattle.state_search.specs.declared.firsts.First.{First}
use Rattle.state_search.specs.Paths.{IsPath, IsBelow}

module _ {L : Type 0} (eq : L → L → Bool) where
  -- the label is noted, at a place that passes
  abbrev pub IsNotedAt : List (First L) → L → (ℕ → Type 0) → Type 0
  IsNotedAt fs l P = (m : ℕ) × (f : First L) × (slice_get fs m ≡ Some f) × (eq f.label l ≡ true)
      × P f.place

  -- the label is noted
  abbrev pub IsNoted : List (First L) → L → Type 0
  IsNoted fs l = (m : ℕ) × (f : First L) × (slice_get fs m ≡ Some f) × (eq f.label l ≡ true)

  -- no label is noted twice
  abbrev pub AreApart : List (First L) → Type 0
  AreApart fs = (j k : ℕ) (a b : First L) → slice_get fs j ≡ Some a → slice_get fs k ≡ Some b
      → eq a.label b.label ≡ true → j ≡ k

  module _ (can : L → List L → Type 0) where
    -- Each label that may come is noted once, with the place of the first path after which it may
    -- come; this is one of the shortest such paths. The labels stand in the order of the places.
    -- `eq` says which labels count as the same.
    pub record AreFirsts (paths : List (List L)) (cut : Option ℕ) (fs : List (First L))
        : Type 0 where
      pub each : All (λ f. (p : List L) × (slice_get paths f.place ≡ Some p) × can f.label p
          × ((h : List L) (l : L) → IsPath can h → can l h → eq f.label l ≡ true
          → length p ≤ length h)) fs
      pub first : All (λ f. (k : ℕ) (p : List L) (l : L) → slice_get paths k ≡ Some p → can l p
          → eq f.label l ≡ true → f.place ≤ k) fs
      pub apart : AreApart fs
      pub rising : (j k : ℕ) (a b : First L) → j ≤ k → slice_get fs j ≡ Some a
          → slice_get fs k ≡ Some b → a.place ≤ b.place
      pub all : (h : List L) (l : L) → IsPath can h → IsBelow cut (length h) → can l h
          → IsNoted fs l
