-- Reports of lines as they stand, the newest entry of a line first.
use Rattle.std.specs.Prelude.{◌≡◌, ℕ, ◌≤◌, Bool, true, false, IsSomeAnd, Option, Some, None, List}
use Rattle.std.specs.Prelude.{[], ◌∷◌}
use Rattle.std.specs.Prelude.{length, map, reverse, drop, slice_get, All}
use Rattle.irq_base.specs.Seen.{HistorySeen}
use Rattle.irq_base.specs.declared.entries.Entry.{Entry}
use Rattle.irq_base.specs.declared.numbers.LineNo.{LineNo}
use Rattle.irq_base.specs.declared.reporting.LineReport.{LineReport}
use Rattle.irq_line.specs.Seen.{LineSeen}
use Rattle.irq_model.specs.Kinds.{same_line}
use Rattle.board_def.specs.Seen.{BoardSeen}
use Rattle.board_def.specs.declared.rows.LineRow.{LineRow}
use Rattle.board_core.specs.Seen.{board_lines}
use Rattle.board_play.specs.Lines.{BoardLine, defs_of, find_line}
use Rattle.board_report.specs.Headline.{Histories, LineHistory}
use Rattle.board_report.specs.declared.reporting.ReportRoom.{ReportRoom}

-- the entries of a line, the oldest first; none if there is no line
abbrev pub entries_of : Option BoardLine → List Entry
entries_of None = []
entries_of (Some x) = reverse x.past

-- the line's number, with its entries if it is among these lines
abbrev pub history_among : List BoardLine → LineRow → LineHistory
history_among lines row = (row.line, entries_of (find_line lines row.line))

-- what the lines have, by their numbers; nothing if there is no such line
abbrev pub entries_in : List BoardLine → Histories
entries_in lines line = entries_of (find_line lines line)

-- these are the lines of the board that take part, in its order
abbrev pub AreOfBoard : BoardSeen → List BoardLine → Type 0
AreOfBoard b lines = map (λ (x : BoardLine). x.def) lines ≡ defs_of b

-- the lines from the last one on
abbrev pub from_last : List LineSeen → List BoardLine
from_last lines = board_lines (reverse lines)

-- the first of the lines has this number
abbrev pub is_first : LineNo → List BoardLine → Bool
is_first number [] = false
is_first number (x ∷ xs) = same_line number x.def.line

-- the first line was taken away, and its entries are the answer; or none was, since the first line
-- has another number
abbrev pub TakesFirst : Bool → List BoardLine → List BoardLine → List Entry → Type 0
TakesFirst true old new entries = (entries ≡ entries_of (slice_get old 0)) × (new ≡ drop 1 old)
TakesFirst false old new entries = (entries ≡ []) × (new ≡ old)

-- The first line was taken away, and its history's room is the answer; or none was, since the first
-- line has another number.
abbrev pub TakesRoom : Bool → (old new : List LineSeen) → ℕ → Type 0
TakesRoom true old new spare = IsSomeAnd (slice_get old 0) (λ x. spare ≡ x.spare)
    × (new ≡ drop 1 old)
TakesRoom false old new spare = new ≡ old

-- the report of each of these lines has the line's history with the room that it has there
abbrev pub KeepRoom : List LineSeen → List LineReport → Type 0
KeepRoom lines reports = (k i : ℕ) (line : LineSeen) (report : LineReport)
    → slice_get lines k ≡ Some line → slice_get reports i ≡ Some report
    → report.line ≡ line.def.line → report.history.spare ≡ line.spare

-- the history that is handed out for the line of this number has room for one more entry
abbrev pub IsHandedRoom : List LineReport → LineNo → Type 0
IsHandedRoom reports number =
    (i : ℕ) × (report : LineReport) × (slice_get reports i ≡ Some report)
    × (report.line ≡ number) × (1 ≤ report.history.spare)

abbrev pub IsEmptyHistory : HistorySeen → Type 0
IsEmptyHistory h = h.entries ≡ []

-- there is room for n reports, and an empty history for each
pub record HasRoom (n : ℕ) (room : ReportRoom) : Type 0 where
  pub none_yet : room.reports.reports ≡ []
  pub spare : n ≤ room.reports.spare
  pub histories : length room.empty.items ≡ n
  pub empty : All IsEmptyHistory room.empty.items
