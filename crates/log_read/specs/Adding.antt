-- What a row adds to the histories.
use Rattle.std.specs.Prelude.{◌≡◌, ◌⊎◌, ℕ, Bool, true, false, Some, List, [], ◌∷◌, ◌++◌, get_or}
use Rattle.std.specs.Prelude.{slice_get, slice_set}
use Rattle.board_def.specs.Seen.{BoardSeen}
use Rattle.board_def.specs.declared.rows.LineRow.{LineRow}
use Rattle.irq_base.specs.declared.entries.Entry.{Entry}
use Rattle.irq_base.specs.declared.numbers.LineNo.{LineNo}
use Rattle.log_read.specs.LogOf.{LineEntry, IsRow, IsRowOn, is_passed_over}

-- the line stands at this place of the board
abbrev pub IsPlaceOf : List LineRow → LineNo → ℕ → Type 0
IsPlaceOf lines line place =
    (row : LineRow) × (slice_get lines place ≡ Some row) × (row.line ≡ line)

-- the history at place k has one entry more
abbrev pub Adds : ℕ → Entry → List (List Entry) → List (List Entry) → Type 0
Adds place e old new = new ≡ slice_set old place (get_or old place [] ++ e ∷ [])

-- the row is the row of an entry, which was added at its line's place
abbrev pub AddsSaid : BoardSeen → List ℕ → List (List Entry) → List (List Entry) → Type 0
AddsSaid b row old new = (said : LineEntry) × (place : ℕ) × IsRowOn b row said
    × (is_passed_over row ≡ false) × IsPlaceOf b.lines said.0 place × Adds place said.1 old new

-- nothing is wrong with the row, and what it says was added; or something is wrong with it
abbrev pub Judges : BoardSeen → List ℕ → Bool → List (List Entry) → List (List Entry) → Type 0
Judges b row true old new =
    ((is_passed_over row ≡ true) × (new ≡ old)) ⊎ AddsSaid b row old new
Judges b row false old new = IsRow b row → ⊥
