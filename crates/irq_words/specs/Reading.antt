-- What a list of words is read as, both ways: `write` says how an item is written, `Fits` which
-- lists can be.
use Rattle.std.specs.Prelude.{◌≡◌, ℕ, Option, MatchOption, List, ◌++◌, map}

module _ {X : Type 0} (Fits : List X → Type 0) (write : X → List ℕ) where
  -- the words are the items', one for each
  pub record Spells (words : List (List ℕ)) (items : List X) : Type 0 where
    pub fits : Fits items
    pub words_are : words ≡ map write items

  -- the items that the words spell; none if they spell no items
  abbrev pub ReadsList : List (List ℕ) → Option (List X) → Type 0
  ReadsList words r = MatchOption r ((items : List X) → Spells words items → ⊥) (Spells words)

  -- the items before, and behind them those that the words spell
  abbrev pub ReadsAfter : List X → List (List ℕ) → Option (List X) → Type 0
  ReadsAfter before words r = MatchOption r ((items : List X) → Spells words items → ⊥)
      (λ all. (items : List X) × (all ≡ before ++ items) × Spells words items)
