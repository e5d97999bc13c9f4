-- What a log's text says, and what is wrong with a text that isn't a log.
use Rattle.std.specs.Prelude.{◌≡◌, ◌⊎◌, ℕ, ◌-◌, ◌≤◌, ◌==◌, Bool, true, false, not, ◌&&◌}
use Rattle.std.specs.Prelude.{if◌then◌else◌, Some, List, [], ◌∷◌, map, take, slice_get, All}
use Rattle.std.specs.Prelude.{Result, Ok, Err}
use Rattle.std.specs.List.{filter, AllZip}
use Rattle.board_def.specs.Rules.{has_line}
use Rattle.board_def.specs.Seen.{BoardSeen}
use Rattle.irq_base.specs.Seen.{HistorySeen}
use Rattle.irq_base.specs.declared.entries.Entry.{Entry}
use Rattle.irq_base.specs.declared.numbers.LineNo.{LineNo}
use Rattle.log_text.specs.Formed.{IsRowOf}
use Rattle.log_read.specs.Versions.{may_have}
use Rattle.log_read.specs.declared.reading.LogRefused.{LogRefused}
use Rattle.log_read.specs.declared.reading.LogRefused.TheVariants as refusals

abbrev pub is_feed : ℕ → Bool
is_feed b = b == 10

abbrev pub onto_first : ℕ → List (List ℕ) → List (List ℕ)
onto_first b [] = (b ∷ []) ∷ []
onto_first b (row ∷ rows) = (b ∷ row) ∷ rows

-- the rows of a text, each with its line feed; the bytes behind the last line feed are a row,
-- unless there are none
abbrev pub rows_of : List ℕ → List (List ℕ)
rows_of [] = []
rows_of (b ∷ bs) = if is_feed b then (b ∷ []) ∷ rows_of bs else onto_first b (rows_of bs)

-- the row has its line feed
abbrev pub is_whole : List ℕ → Bool
is_whole [] = false
is_whole (b ∷ []) = is_feed b
is_whole (b ∷ c ∷ bs) = is_whole (c ∷ bs)

abbrev pub begins_with_hash : List ℕ → Bool
begins_with_hash [] = false
begins_with_hash (b ∷ bs) = b == 35

-- a row that is passed over: it begins with `#`
abbrev pub is_passed_over : List ℕ → Bool
is_passed_over row = begins_with_hash row && is_whole row

-- an entry of a line
abbrev pub LineEntry : Type 0
LineEntry = LineNo × Entry

-- the row is the row of this entry, of a line of the board, whose log may have such rows
pub record IsRowOn (b : BoardSeen) (row : List ℕ) (said : LineEntry) : Type 0 where
  pub formed : IsRowOf row said.0 said.1
  pub allowed : may_have b.version said.1 ≡ true
  pub declared : has_line b.lines said.0 ≡ true

-- nothing is wrong with the row: it is passed over, or it is the row of some entry of a line of the
-- board
abbrev pub IsRow : BoardSeen → List ℕ → Type 0
IsRow b row = (is_passed_over row ≡ true) ⊎ ((said : LineEntry) × IsRowOn b row said)

-- the rows that aren't passed over
abbrev pub saying : List (List ℕ) → List (List ℕ)
saying rows = filter (λ row. not (is_passed_over row)) rows

-- the entries of the line among these, in their order
abbrev pub entries_on : List LineEntry → LineNo → List Entry
entries_on said line = map (λ x. x.1) (filter (λ x. x.0.0 == line.0) said)

-- The rows say these histories, one for each line in the board's order: each row that isn't passed
-- over is the row of an entry, and a line's history has the entries of its rows, in their order.
pub record Tell (b : BoardSeen) (rows : List (List ℕ)) (histories : List (List Entry))
    : Type 0 where
  pub said : List LineEntry
  pub each : AllZip (IsRowOn b) (saying rows) said
  pub are : histories ≡ map (λ row. entries_on said row.line) b.lines

-- the row with this number, counted from 1, is the first with which something is wrong
pub record IsFirstMalformed (b : BoardSeen) (rows : List (List ℕ)) (number : ℕ)
    : Type 0 where
  pub counted : 1 ≤ number
  pub before : All (IsRow b) (take (number - 1) rows)
  pub malformed : (row : List ℕ) × (slice_get rows (number - 1) ≡ Some row) × (IsRow b row → ⊥)

abbrev pub entries_of : List HistorySeen → List (List Entry)
entries_of logs = map (λ h. h.entries) logs

-- what reading the text of a log answers; memory may be refused
abbrev pub IsLogOf : BoardSeen → List ℕ → Result (List HistorySeen) LogRefused → Type 0
IsLogOf b text (Ok logs) = Tell b (rows_of text) (entries_of logs)
IsLogOf b text (Err (refusals.Malformed number)) = IsFirstMalformed b (rows_of text) number
IsLogOf b text (Err refusals.NoMemory) = Unit {0}
