-- The two parts of an input: the text of a board, and a log.
use Rattle.std.specs.Prelude.{◌≡◌, ℕ, ◌+◌, ◌<◌, Bool, ◌||◌, if◌then◌else◌, Option, Some, None, List}
use Rattle.std.specs.Prelude.{[], ◌∷◌, ◌++◌, codes, length, take, drop, slice_index}
use Rattle.std.specs.List.{concat}
use Rattle.std.specs.Str.{bytes_eq}
use Rattle.log_read.specs.LogOf.{rows_of}

-- the row is `---`, with its line feed or, at the end of the input, without it
abbrev pub is_dashes : List ℕ → Bool
is_dashes row = bytes_eq row (codes "---\n") || bytes_eq row (codes "---")

-- the row, put before the first of the two parts
abbrev pub onto_board : List ℕ → Option (List ℕ × List ℕ) → Option (List ℕ × List ℕ)
onto_board row None = None
onto_board row (Some (board, log)) = Some (row ++ board, log)

-- the bytes before the first row that is `---`, and the bytes after that row
abbrev pub split_at_dashes : List (List ℕ) → Option (List ℕ × List ℕ)
split_at_dashes [] = None
split_at_dashes (row ∷ rows) =
    if is_dashes row then Some ([], concat rows) else onto_board row (split_at_dashes rows)

abbrev pub parts_of : List ℕ → Option (List ℕ × List ℕ)
parts_of input = split_at_dashes (rows_of input)

-- a row begins at this place: at the front, or behind a line feed
abbrev pub BeginsRow : List ℕ → ℕ → Type 0
BeginsRow bytes n = (k : ℕ) → k + 1 ≡ n → slice_index bytes k ≡ 10

-- the text has a row that begins at this place, and no row before it is `---`
pub record SkipsTo (text : List ℕ) (start : ℕ) : Type 0 where
  pub within : start < length text
  pub parts : split_at_dashes (rows_of text)
      ≡ onto_board (take start text) (split_at_dashes (rows_of (drop start text)))
