-- The headline: what holds of the histories of a board's lines when its play has come to its end,
-- and of the reports that hand them out. What holds of one line is board_report's headline; here
-- stands whose play it is. The moves of a play and the entries of a history stand oldest first
-- here; `Plays` has the newest move first.
use Rattle.std.specs.Prelude.{◌≡◌, ℕ, IsSome, Option, Result, Ok, Err, List, [], length, map}
use Rattle.std.specs.Prelude.{reverse}
use Rattle.irq_base.specs.declared.entries.Actor.{Actor}
use Rattle.irq_base.specs.declared.entries.Entry.{Entry}
use Rattle.irq_base.specs.declared.numbers.LineNo.{LineNo}
use Rattle.irq_base.specs.declared.reporting.LineReport.{LineReport}
use Rattle.board_core.specs.Wanted.{WantsNext}
use Rattle.board_core.specs.declared.ends.PlayEnd.{PlayEnd}
use Rattle.board_core.specs.declared.ends.PlayEnd.TheVariants as ends
use Rattle.board_def.specs.LineOf.{line_of_row}
use Rattle.board_def.specs.Seen.{BoardSeen}
use Rattle.board_def.specs.declared.rows.LineRow.{LineRow}
use Rattle.board_play.specs.Lines.{Move, lines_of, part}
use Rattle.board_play.specs.Play.{Done, Full, IsChosen, Plays, choice}
use Rattle.board_report.specs.Headline.{EachMapped, EachRefused, IsAmple, KeepsLaws, LineHeadline}
use Rattle.board_report.specs.Headline.{LineHistory, told_by}
use Rattle.board_report.specs.Hung.{IsFirstHung, LineBesideHung, IsCaughtElsewhere}
use Rattle.board_report.specs.Reporting.{IsHandedRoom}
use Rattle.irq_line.specs.declared.answers.StepRefused.{StepRefused}
use Rattle.irq_line.specs.declared.answers.StepRefused.TheVariants as refusals

-- the line's number, with its entries among the moves
abbrev pub history_of : List Move → LineRow → LineHistory
history_of g row = (row.line, part row.line g)

-- one history for each line of the board, in the board's order
abbrev pub histories_of : BoardSeen → List Move → List LineHistory
histories_of b g = map (history_of g) b.lines

-- the board was played to its end, with these moves
pub record Headline (b : BoardSeen) (g : List Move) (reports : List LineReport) : Type 0 where
  -- these moves, and no others, are the play of the board by the stated order with its picks
  pub play : Plays b b.picks (reverse g) Done
  -- one report for each line of the board, with the line's entries among the moves
  pub handed_out : map told_by reports ≡ histories_of b g
  pub mapped : EachMapped b (λ row. LineHeadline (line_of_row b row) (part row.line g))
  -- a refused line has no entry
  pub refused : EachRefused b (λ row. part row.line g ≡ [])

-- The board was played, with these moves, until nobody could move, and some actor is hung: this
-- line is the first with one, and the actor its lowest.
pub record HungPlay (b : BoardSeen) (g : List Move) (reports : List LineReport) (line : LineNo)
    (actor : Actor) : Type 0 where
  -- these moves, and no others, are the play of the board by the stated order with its picks
  pub play : Plays b b.picks (reverse g) Done
  pub hung : IsFirstHung b (λ l. part l g) line actor
  pub handed_out : map told_by reports ≡ histories_of b g
  pub mapped : EachMapped b (λ row. LineBesideHung (line_of_row b row) (part row.line g)
      (IsCaughtElsewhere b (λ l. part l g) row.line))
  pub refused : EachRefused b (λ row. part row.line g ≡ [])

-- the board was played until an entry was due on a line whose history has the greatest length,
-- `len`
pub record FullLog (b : BoardSeen) (g : List Move) (reports : List LineReport) (line : LineNo)
    (len : ℕ) : Type 0 where
  pub play : Plays b b.picks (reverse g) (Full line)
  pub handed_out : map told_by reports ≡ histories_of b g
  pub mapped : EachMapped b (λ row. KeepsLaws (line_of_row b row) (part row.line g))
  pub refused : EachRefused b (λ row. part row.line g ≡ [])
  pub length_is : length (part line g) ≡ len
  pub limit_is : len ≡ b.log
  -- this ending doesn't come if each line's log is ample
  pub scarce : IsAmple b → ⊥

-- The board was played until a step was refused memory. Each of these moves was the next one, by
-- the picks and the order, and a further move is due; `left` are the picks that are left.
pub record CutShort (b : BoardSeen) (g : List Move) (reports : List LineReport) : Type 0 where
  pub left : List Actor
  pub so_far : IsChosen b b.picks (reverse g) left
  pub next : IsSome (choice b (lines_of b (reverse g)) left)
  pub handed_out : map told_by reports ≡ histories_of b g
  pub mapped : EachMapped b (λ row. KeepsLaws (line_of_row b row) (part row.line g))
  pub refused : EachRefused b (λ row. part row.line g ≡ [])

-- what the reports hand out, by how the play ended: one of these four
abbrev pub HandsOut : BoardSeen → List Move → Result PlayEnd StepRefused → List LineReport → Type 0
HandsOut b g (Ok ends.Settled) reports = Headline b g reports
HandsOut b g (Ok (ends.Hung line actor)) reports = HungPlay b g reports line actor
HandsOut b g (Err (refusals.Full line len)) reports = FullLog b g reports line len
HandsOut b g (Err refusals.NoMemory) reports = CutShort b g reports

-- The step that was refused memory: whose it was, and on which line. If there was room for one more
-- entry, in the history that is handed out for the line and in the log, then the line may want
-- memory for the entry that is due there.
abbrev pub RefusedStep : (Option Entry → Type 0) → BoardSeen → List Move → List LineReport → Type 0
RefusedStep may_want b g reports = WantsNext may_want (IsHandedRoom reports) b b.picks g
