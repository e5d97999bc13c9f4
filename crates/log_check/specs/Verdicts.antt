-- The verdict on the histories of a board's lines, and on the text of a log.
use Rattle.std.specs.Prelude.{◌≡◌, ℕ, ◌≤◌, ◌<◌, Option, Some, None, List, [], length, slice_get}
use Rattle.std.specs.Prelude.{Ok, Err}
use Rattle.board_def.specs.Layout.{layout_of}
use Rattle.board_def.specs.LineOf.{line_of_row}
use Rattle.board_def.specs.Seen.{BoardSeen}
use Rattle.domain_rules.specs.declared.layouts.Placement.{Placement}
use Rattle.domain_rules.specs.declared.layouts.Placement.TheVariants as placements
use Rattle.board_def.specs.declared.rows.LineRow.{LineRow}
use Rattle.irq_base.specs.Seen.{HistorySeen}
use Rattle.irq_base.specs.declared.entries.Entry.{Entry}
use Rattle.log_check.specs.Judged.{Judged}
use Rattle.log_check.specs.declared.verdict.Verdict.{Verdict}
use Rattle.log_check.specs.declared.verdict.Verdict.TheVariants as verdicts
use Rattle.log_read.specs.LogOf.{IsLogOf}
use Rattle.log_read.specs.declared.reading.LogRefused.TheVariants as refusals

-- a line that takes no part may have no entry: if it has any, its first is the first that isn't due
abbrev pub JudgedEmpty : List Entry → Option ℕ → Type 0
JudgedEmpty entries None = entries ≡ []
JudgedEmpty entries (Some number) = (1 ≤ length entries) × (number ≡ 1)

-- the verdict on a line of the board, by whether it is mapped or refused
abbrev pub JudgedLine : BoardSeen → LineRow → Placement → List Entry → Option ℕ → Type 0
JudgedLine b row (placements.Mapped virq path) entries first =
    Judged (line_of_row b row) entries first
JudgedLine b row (placements.Refused why) entries first = JudgedEmpty entries first

-- the verdict on the board's line at index i, whose history stands at index i of the logs
abbrev pub JudgedAt : BoardSeen → List HistorySeen → ℕ → Option ℕ → Type 0
JudgedAt b logs i first =
    (row : LineRow) (placement : Placement) (history : HistorySeen)
    → slice_get b.lines i ≡ Some row → slice_get (layout_of b) i ≡ Some placement
    → slice_get logs i ≡ Some history → JudgedLine b row placement history.entries first

-- lawful: each line's history is legal. Unlawful: the first line, in the board's order, whose
-- history isn't legal, and the first entry of this history that isn't due
abbrev pub IsVerdict : BoardSeen → List HistorySeen → Verdict → Type 0
IsVerdict b logs verdicts.Lawful = (i : ℕ) → i < length b.lines → JudgedAt b logs i None
IsVerdict b logs (verdicts.Unlawful line number) =
    (i : ℕ) × (row : LineRow) × (slice_get b.lines i ≡ Some row) × (row.line ≡ line)
    × JudgedAt b logs i (Some number) × ((j : ℕ) → j < i → JudgedAt b logs j None)
IsVerdict b logs (verdicts.Malformed row) = ⊥

-- the text of the log says these histories, and this is the verdict on them
abbrev pub HasVerdict : BoardSeen → List ℕ → Verdict → Type 0
HasVerdict b log verdict =
    (logs : List HistorySeen) × IsLogOf b log (Ok logs) × IsVerdict b logs verdict

-- the verdict on the text of a log: this row is the first malformed one; or there is none, and the
-- histories are judged
abbrev pub ChecksLog : BoardSeen → List ℕ → Verdict → Type 0
ChecksLog b log verdicts.Lawful = HasVerdict b log verdicts.Lawful
ChecksLog b log (verdicts.Unlawful line entry) = HasVerdict b log (verdicts.Unlawful line entry)
ChecksLog b log (verdicts.Malformed row) = IsLogOf b log (Err (refusals.Malformed row))
