-- The headline: what holds of the histories of a board's lines when nothing moves any more, however
-- the lines came to be as they are, and of the reports that hand them out. The entries of a history
-- stand oldest first. Nothing is said of the order between lines.
use Rattle.std.specs.Prelude.{◌≡◌, ◌≤◌, ℕ, IsSome, Some, List, [], ◌++◌, length, map, reverse}
use Rattle.std.specs.Prelude.{slice_get}
use Rattle.irq_base.specs.declared.entries.Actor.{Actor}
use Rattle.irq_base.specs.declared.entries.Entry.{Entry}
use Rattle.irq_base.specs.declared.lines.LineDef.{LineDef}
use Rattle.irq_base.specs.declared.numbers.LineNo.{LineNo}
use Rattle.irq_base.specs.declared.reporting.LineReport.{LineReport}
use Rattle.irq_model.specs.Laws.{NoOverlap, IsSilentAfterFree, KeepsOneshot, TakesAreCounted}
use Rattle.irq_model.specs.Laws.{IsSynchronised, IsServedWhenIdle}
use Rattle.irq_model.specs.Legal.{IsLegal}
use Rattle.irq_model.specs.Next.{next}
use Rattle.irq_model.specs.Owed.{IsCovered, IsDelivered}
use Rattle.irq_model.specs.Reason.{HasReason}
use Rattle.irq_model.specs.RunLaws.{FollowsRunScripts, EnablesWhatItDisables, IsLeftEnabled}
use Rattle.irq_model.specs.Scripts.{FollowsScripts}
use Rattle.irq_model.specs.Settled.{IsSettled}
use Rattle.irq_model.specs.Waits.{IsHungPast}
use Rattle.irq_laws.specs.Quiet.{IsQuiet}
use Rattle.irq_storms.specs.Lengths.{history_bound, IsBounded}
use Rattle.domain_rules.specs.declared.layouts.Placement.TheVariants as placements
use Rattle.domain_rules.specs.declared.layouts.Unmapped.{Unmapped}
use Rattle.board_def.specs.Layout.{layout_of}
use Rattle.board_def.specs.LineOf.{line_of_row}
use Rattle.board_def.specs.Seen.{BoardSeen}
use Rattle.board_def.specs.declared.rows.LineRow.{LineRow}
use Rattle.board_play.specs.Lines.{defs_of}

-- ---- one line

-- the line at a moment, after these entries
pub record HoldsAt (def : LineDef) (h : List Entry) : Type 0 where
  -- each owed edge is somewhere: presented, kept, pending, in a software resend, or its device is
  -- still ahead in the round
  pub covered : IsCovered def h
  -- a started line with linked devices is masked only if it is disabled, or a flow is in progress,
  -- or on a level line a thread isn't finished
  pub has_reason : HasReason def h
  -- if the line is enabled and no flow is in progress, the target's next entry is a take that is
  -- handled, if an edge is owed, or if the level is high and no thread is unfinished
  pub served_when_idle : IsServedWhenIdle def h

-- a line's history, at its end or not
pub record KeepsLaws (def : LineDef) (h : List Entry) : Type 0 where
  -- each entry was due of its actor
  pub legal : IsLegal def h
  -- a device's handler is called, and its thread's run begins, only when it isn't at work
  pub no_overlap : NoOverlap def h
  -- no run of a device comes after its free before it is linked again
  pub silent_after_free : IsSilentAfterFree def h
  -- no end and no finish opened a level line over an unfinished thread
  pub keeps_oneshot : KeepsOneshot def h
  -- an edge line took no more interrupts than came
  pub takes_are_counted : TakesAreCounted def h
  -- a hard clear came when no handler was at work, a sync's end when no thread was
  pub synchronised : IsSynchronised def h
  -- a driver's entries are the entries of its calls, in the order of its script, each once
  pub scripts : FollowsScripts def h
  -- the calls of handlers and threads stand within their runs, in the order of their scripts, each
  -- once, and all of them in a run that has returned
  pub run_scripts : FollowsRunScripts def h
  -- at each moment of the history
  pub always : (before after : List Entry) → h ≡ before ++ after → HoldsAt def before

-- the history of a line on whose board nothing moves any more
pub record LineHeadline (def : LineDef) (h : List Entry) : Type 0 where
  pub laws : KeepsLaws def h
  -- nothing is due any more, and the drivers' calls are complete
  pub settled : IsSettled def h
  -- if the line isn't left disabled, no edge is owed to a linked device, and on a level line each
  -- linked device that works and isn't quiet has all its asks served
  pub delivered : IsDelivered def h
  -- nothing is at work: each handler that was called has returned
  pub quiet : IsQuiet def h
  -- nobody waits for himself
  pub unhung : (a : Actor) → IsHungPast def (reverse h) a → ⊥
  -- where each run that disables the line has its thread enable it, and each driver enables as
  -- often as it disables, a line with something linked is enabled, unless an end killed it
  pub left_enabled : EnablesWhatItDisables def → IsLeftEnabled def h

-- ---- all lines of a board

-- the fact holds of each line of the board that takes part
abbrev pub EachMapped : BoardSeen → (LineRow → Type 0) → Type 0
EachMapped b P =
    (i : ℕ) (row : LineRow) (virq : ℕ) (path : List (ℕ × ℕ)) → slice_get b.lines i ≡ Some row
    → slice_get (layout_of b) i ≡ Some (placements.Mapped virq path) → P row

-- the fact holds of each line of the board that the layout refuses
abbrev pub EachRefused : BoardSeen → (LineRow → Type 0) → Type 0
EachRefused b P =
    (i : ℕ) (row : LineRow) (why : Unmapped) → slice_get b.lines i ≡ Some row
    → slice_get (layout_of b) i ≡ Some (placements.Refused why) → P row

-- a line's number and its entries
abbrev pub LineHistory : Type 0
LineHistory = LineNo × List Entry

-- what a report hands out
abbrev pub told_by : LineReport → LineHistory
told_by report = (report.line, report.history.entries)

-- each line that takes part has a longest history, and room for it
abbrev pub IsAmple : BoardSeen → Type 0
IsAmple b = (i : ℕ) (def : LineDef) → slice_get (defs_of b) i ≡ Some def
    → IsBounded def × (history_bound def ≤ b.log)

-- ---- what has happened

-- what has happened on each line, by its number
abbrev pub Histories : Type 0
Histories = LineNo → List Entry

-- one history for each line of the board, in the board's order
abbrev pub histories_of : BoardSeen → Histories → List LineHistory
histories_of b entries = map (λ (row : LineRow). (row.line, entries row.line)) b.lines

-- nothing moves any more, and this happened on the board's lines
pub record Headline (b : BoardSeen) (entries : Histories) (reports : List LineReport) : Type 0 where
  -- one report for each line of the board, with the line's entries
  pub handed_out : map told_by reports ≡ histories_of b entries
  pub mapped : EachMapped b (λ row. LineHeadline (line_of_row b row) (entries row.line))
  -- a refused line has no entry
  pub refused : EachRefused b (λ row. entries row.line ≡ [])

-- this happened on the board's lines, at their end or not
pub record SoFar (b : BoardSeen) (entries : Histories) (reports : List LineReport) : Type 0 where
  -- one report for each line of the board, with the line's entries
  pub handed_out : map told_by reports ≡ histories_of b entries
  pub mapped : EachMapped b (λ row. KeepsLaws (line_of_row b row) (entries row.line))
  -- a refused line has no entry
  pub refused : EachRefused b (λ row. entries row.line ≡ [])

-- an entry is due on this line of the board, and the line's history has the greatest length, `len`
pub record IsFullLine (b : BoardSeen) (entries : Histories) (line : LineNo) (len : ℕ) : Type 0 where
  pub place : ℕ
  pub row : LineRow
  pub at : slice_get b.lines place ≡ Some row
  pub number : row.line ≡ line
  pub length_is : length (entries line) ≡ len
  pub limit_is : len ≡ b.log
  pub actor : Actor
  pub due : IsSome (next (line_of_row b row) (entries line) actor)

-- this happened on the board's lines until an entry was due on one whose history has the greatest
-- length, `len`
pub record FullLog (b : BoardSeen) (entries : Histories) (reports : List LineReport)
    (line : LineNo) (len : ℕ) : Type 0 where
  pub handed_out : map told_by reports ≡ histories_of b entries
  pub mapped : EachMapped b (λ row. KeepsLaws (line_of_row b row) (entries row.line))
  pub refused : EachRefused b (λ row. entries row.line ≡ [])
  pub full : IsFullLine b entries line len
  -- this ending doesn't come if each line's log is ample
  pub scarce : IsAmple b → ⊥
