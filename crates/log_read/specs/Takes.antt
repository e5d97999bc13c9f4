-- What it means to read a piece of a row, both ways.
use Rattle.std.specs.Prelude.{◌≡◌, ℕ, Option, Some, None, List, [], ◌∷◌, ◌++◌, decimal}
use Rattle.log_read.specs.Left.{left_of}
use Rattle.log_read.specs.declared.words.Words.{Words}

-- `write` says how a value is written, `Fits` which values can be; `y` was read, which is `make` of
-- the value.
pub record TakesAs {X Y : Type 0} (Fits : X → Type 0) (write : X → List (List ℕ)) (make : X → Y)
    (old new : Words) (y : Y) : Type 0 where
  -- the value that was read is written so, and the words behind it are left
  pub sound : (rest : List (List ℕ)) → left_of new ≡ Some rest
      → (x : X) × Fits x × (y ≡ make x) × (left_of old ≡ Some (write x ++ rest))
  -- a value that is written so is read
  pub complete : (x : X) (rest : List (List ℕ)) → Fits x → left_of old ≡ Some (write x ++ rest)
      → (y ≡ make x) × (left_of new ≡ Some rest)

-- the same of a piece that ends a row: no word is left behind it
pub record EndsAs {X Y : Type 0} (Fits : X → Type 0) (write : X → List (List ℕ)) (make : X → Y)
    (old new : Words) (y : Y) : Type 0 where
  pub sound : left_of new ≡ Some []
      → (x : X) × Fits x × (y ≡ make x) × (left_of old ≡ Some (write x))
  pub complete : (x : X) → Fits x → left_of old ≡ Some (write x)
      → (y ≡ make x) × (left_of new ≡ Some [])

-- each value can be written
abbrev pub Any : {X : Type 0} → X → Type 0
Any x = Unit {0}

abbrev pub Takes : {X : Type 0} → (X → List (List ℕ)) → Words → Words → X → Type 0
Takes write old new x = TakesAs Any write (λ y. y) old new x

abbrev pub Ends : {X : Type 0} → (X → List (List ℕ)) → Words → Words → X → Type 0
Ends write old new x = EndsAs Any write (λ y. y) old new x

-- a value as one word
abbrev pub one : {X : Type 0} → (X → List ℕ) → X → List (List ℕ)
one write x = write x ∷ []

-- a number as its digits
abbrev pub number_words : ℕ → List (List ℕ)
number_words n = decimal n ∷ []

-- one value, and then another
abbrev pub Both : {X Y : Type 0} → (X → Type 0) → (Y → Type 0) → X × Y → Type 0
Both F G p = F p.0 × G p.1

abbrev pub then : {X Y : Type 0} → (X → List (List ℕ)) → (Y → List (List ℕ)) → X × Y → List (List ℕ)
then f g p = f p.0 ++ g p.1

-- this word and no other
abbrev pub text_words : List ℕ → Unit {0} → List (List ℕ)
text_words text u = text ∷ []

-- what a word was read as, both ways
abbrev pub Reads : {X : Type 0} → (X → Type 0) → (X → List ℕ) → List ℕ → Option X → Type 0
Reads Fits write word (Some x) = Fits x × (word ≡ write x)
Reads {X} Fits write word None = (x : X) → Fits x → word ≡ write x → ⊥
