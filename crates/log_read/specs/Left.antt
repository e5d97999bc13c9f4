-- The words of a row that are left.
use Rattle.std.specs.Prelude.{◌≡◌, ℕ, ◌==◌, Bool, Option, Some, None, List, [], ◌∷◌}
use Rattle.std.specs.List.{slice_split}
use Rattle.log_read.specs.declared.words.Words.{Words}
use Rattle.log_read.specs.declared.words.Words.TheVariants as words

abbrev pub is_space : ℕ → Bool
is_space b = b == 32

-- the words between the spaces
abbrev pub words_of : List ℕ → List (List ℕ)
words_of row = slice_split is_space row

-- the words that are left; nothing if something didn't fit
abbrev pub left_of : Words → Option (List (List ℕ))
left_of words.Failed = None
left_of words.Done = Some []
left_of (words.More rest) = Some (words_of rest.now)

-- the first word of the row, and the words behind it
abbrev pub CutsOff : List ℕ → List ℕ → Words → Type 0
CutsOff row word after =
    (rest : List (List ℕ)) × (left_of after ≡ Some rest) × (words_of row ≡ word ∷ rest)
