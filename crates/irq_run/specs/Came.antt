-- How the histories of a run came to be: the shifts ended, the lines were taken back from the
-- threads, and then only the lowest actors moved.
use Rattle.std.specs.Prelude.{◌≡◌, ℕ, Some, Result, List, slice_get}
use Rattle.irq_base.specs.declared.numbers.LineNo.{LineNo}
use Rattle.irq_line.specs.Seen.{LineSeen}
use Rattle.irq_line.specs.declared.answers.StepRefused.{StepRefused}
use Rattle.board_core.specs.Playing.{AreLowestMoves, lines_after_all}
use Rattle.board_core.specs.Seen.{board_lines}
use Rattle.board_def.specs.Seen.{BoardSeen}
use Rattle.board_play.specs.Lines.{BoardLine, Move}
use Rattle.board_report.specs.Headline.{Histories}
use Rattle.board_report.specs.Reporting.{entries_in}
use Rattle.line_lock.specs.Knows.{BeginsWith}
use Rattle.line_lock.specs.Passes.{LockSeen}
use Rattle.workers.specs.Fit.{Fit}
use Rattle.workers.specs.Gathers.{AreGathered}
use Rattle.workers.specs.Seen.{PostSeen, JobSeen, JobsSeen}
use Rattle.workers.specs.Shifts.{Ends}
use Rattle.workers.specs.Terms.{Terms}

-- the shifts came to their end: nothing was due of any actor on what its passes had seen, or a step
-- was refused
abbrev pub AreOver : Terms → JobsSeen → Type 0
AreOver terms jobs = (end : Result Unit StepRefused) × Ends terms jobs end

-- These moves, the newest first, were made on the lines as they stood before; each was the lowest
-- actor's. They left these histories.
pub record AreSettled (b : BoardSeen) (before : List BoardLine) (moves : List Move)
    (entries : Histories) : Type 0 where
  pub lowest : AreLowestMoves b before moves
  pub left : (line : LineNo) → entries line ≡ entries_in (lines_after_all moves before) line

-- The shifts of the board's workers ended with these jobs, and these histories go on from what
-- their passes had seen.
pub record CameOfShifts (terms : Terms) (b : BoardSeen) (entries : Histories) : Type 0 where
  pub locks : List LockSeen
  pub jobs : JobsSeen
  pub board : jobs.board ≡ b
  pub fit : Fit locks jobs
  pub over : AreOver terms jobs
  -- each history begins with what each pass of its line had seen
  pub begins : (i place : ℕ) (j : JobSeen) (t : PostSeen) → slice_get jobs.jobs i ≡ Some j
      → slice_get j.posts place ≡ Some t → BeginsWith (entries t.pass.def.line) t.pass.knows.seen
  -- the lines as they were taken back, and the moves made since
  pub lines : List LineSeen
  pub gathered : AreGathered jobs lines
  pub moves : List Move
  pub settled : AreSettled b (board_lines lines) moves entries
