-- What holds of a board's play by a stated order, and of the reports that hand it out. The steps of
-- a log stand oldest first here; the play's definitions have the newest first.
use Rattle.std.specs.Prelude.{ℕ, IsSome, List, Result, Ok, Err, reverse}
use Rattle.irq_base.specs.declared.entries.Actor.{Actor}
use Rattle.irq_base.specs.declared.numbers.LineNo.{LineNo}
use Rattle.irq_base.specs.declared.reporting.LineReport.{LineReport}
use Rattle.irq_line.specs.declared.answers.StepRefused.{StepRefused}
use Rattle.irq_line.specs.declared.answers.StepRefused.TheVariants as refusals
use Rattle.board_def.specs.Seen.{BoardSeen}
use Rattle.board_play.specs.Lines.{BoardLine, lines_of}
use Rattle.board_play.specs.Play.{Done, Full}
use Rattle.board_core.specs.declared.ends.PlayEnd.{PlayEnd}
use Rattle.board_core.specs.declared.ends.PlayEnd.TheVariants as ends
use Rattle.board_report.specs.Headline.{FullLog, Headline, Histories, SoFar}
use Rattle.board_report.specs.Hung.{HungBoard}
use Rattle.board_report.specs.Reporting.{entries_in}
use Rattle.board_play.specs.Orders.{IsMade, IsPlayed, Order, moves_in}

module _ {S E : Type 0} (b : BoardSeen) (o : Order S E) where
  -- the board's lines after these steps
  abbrev pub lines_after : List E → List BoardLine
  lines_after g = lines_of b (moves_in o (reverse g))

  -- each line's entries among the steps
  abbrev pub entries_of : List E → Histories
  entries_of g = entries_in (lines_after g)

  -- `first` is where the order begins, and `Keeps` what the steps keep besides
  module _ (first : S) (Keeps : List E → Type 0) where
    -- the board was played to its end, with these steps
    pub record IsDone (g : List E) (reports : List LineReport) : Type 0 where
      -- these steps, and no others, are the play of the board by the order
      pub play : IsPlayed o first (reverse g) Done
      pub keeps : Keeps g
      -- one report for each line of the board; what holds of each line at its end
      pub lines : Headline b (entries_of g) reports

    -- the board was played until nobody could move, and some actor is hung; this line is the first
    -- with one, and the actor its lowest
    pub record IsHung (g : List E) (reports : List LineReport) (line : LineNo) (actor : Actor)
        : Type 0 where
      -- these steps, and no others, are the play of the board by the order
      pub play : IsPlayed o first (reverse g) Done
      pub keeps : Keeps g
      pub lines : HungBoard b (entries_of g) reports line actor

    -- the board was played until an entry was due on a line whose history has the greatest length
    pub record IsFull (g : List E) (reports : List LineReport) (line : LineNo) (len : ℕ)
        : Type 0 where
      pub play : IsPlayed o first (reverse g) (Full line)
      pub keeps : Keeps g
      pub lines : FullLog b (entries_of g) reports line len

    -- the board was played until a step was refused memory; `at` is where the order stands then,
    -- and a further step is due
    pub record IsCut (g : List E) (reports : List LineReport) : Type 0 where
      pub at : S
      pub so_far : IsMade o first (reverse g) at
      pub further : IsSome (o.next (reverse g) at)
      pub keeps : Keeps g
      pub lines : SoFar b (entries_of g) reports

    -- what the reports hand out, by how the play ended
    abbrev pub HandsOut : List E → Result PlayEnd StepRefused → List LineReport → Type 0
    HandsOut g (Ok ends.Settled) reports = IsDone g reports
    HandsOut g (Ok (ends.Hung line actor)) reports = IsHung g reports line actor
    HandsOut g (Err (refusals.Full line len)) reports = IsFull g reports line len
    HandsOut g (Err refusals.NoMemory) reports = IsCut g reports
