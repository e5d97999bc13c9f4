-- What holds of a board's sleep, and of the reports that hand it out. The steps and marks of a log
-- stand oldest first here; the definition of a sleep has the newest first.
use Rattle.std.specs.Prelude.{◌≡◌, ℕ, true, Option, Result, Ok, List, reverse}
use Rattle.irq_base.specs.declared.entries.Entry.{Entry}
use Rattle.irq_base.specs.declared.numbers.LineNo.{LineNo}
use Rattle.irq_base.specs.declared.reporting.LineReport.{LineReport}
use Rattle.irq_line.specs.declared.answers.StepRefused.{StepRefused}
use Rattle.board_core.specs.declared.ends.PlayEnd.{PlayEnd}
use Rattle.board_core.specs.declared.ends.PlayEnd.TheVariants as ends
use Rattle.board_def.specs.Seen.{BoardSeen}
use Rattle.board_play.specs.Lines.{lines_of}
use Rattle.board_report.specs.Headline.{EachMapped, Histories}
use Rattle.board_report.specs.Reporting.{IsHandedRoom, entries_in}
use Rattle.irq_pm.specs.Phases.{Picking, sleep_order}
use Rattle.irq_pm.specs.SleepLog.{moves_of}
use Rattle.irq_pm.specs.Slept.{NamesWaker, SleepsThrough}
use Rattle.irq_pm.specs.SleptBoard.{is_for_sleep, slept}
use Rattle.irq_pm.specs.declared.entries.SleepEntry.{SleepEntry}
use Rattle.irq_sleeper.specs.Wanted.{WantsNext}
use Rattle.play_report.specs.Ordered.{HandsOut, IsCut, IsDone, IsFull}

-- each line's entries among the steps
abbrev pub entries_of : BoardSeen → List SleepEntry → Histories
entries_of b g = entries_in (lines_of (slept b) (moves_of (reverse g)))

-- what the lines keep while the machine sleeps, and what wakes it
pub record KeepsSleep (b : BoardSeen) (armed : List LineNo) (g : List SleepEntry) : Type 0 where
  pub fits : is_for_sleep b armed ≡ true
  -- While a line sleeps no handler is called, no thread begins a run, and the line is disabled; a
  -- line that was open, and that no end has killed, is open right after the system's enable.
  pub lines : EachMapped b (λ row. SleepsThrough (reverse (entries_of b g row.line)))
  -- the wake names the line of the first interrupt that wakes, and none exactly where there is none
  pub wake : NamesWaker armed (reverse g)

-- The board was put to sleep and woken with these lines armed, and played to its end: these steps
-- and marks, and no others, are the sleep of the board with its picks. What holds of each line
-- holds at its end: so nothing is lost over a resume.
abbrev pub SleepHeadline : BoardSeen → List LineNo → List SleepEntry → List LineReport → Type 0
SleepHeadline b armed =
    IsDone (slept b) (sleep_order (slept b) armed) (Picking b.picks) (KeepsSleep b armed)

-- the board was played until an entry was due on a line whose history has the greatest length
abbrev pub SleepFull : BoardSeen → List LineNo → List SleepEntry → List LineReport → LineNo → ℕ
    → Type 0
SleepFull b armed =
    IsFull (slept b) (sleep_order (slept b) armed) (Picking b.picks) (KeepsSleep b armed)

-- the board was played until a step was refused memory; where the order stands then is a phase
abbrev pub SleepCut : BoardSeen → List LineNo → List SleepEntry → List LineReport → Type 0
SleepCut b armed =
    IsCut (slept b) (sleep_order (slept b) armed) (Picking b.picks) (KeepsSleep b armed)

-- what the reports hand out, by how the play ended: one of these three. No run waits, so no actor is
-- hung at the end.
unfoldable pub SleepHandsOut : BoardSeen → List LineNo → List SleepEntry
    → Result PlayEnd StepRefused → List LineReport → Type 0
SleepHandsOut b armed g (Ok (ends.Hung line actor)) reports = ⊥
SleepHandsOut b armed g end reports =
    HandsOut (slept b) (sleep_order (slept b) armed) (Picking b.picks) (KeepsSleep b armed) g end
    reports

-- The step that was refused memory: whose it was, and on which line. If there was room for one more
-- entry, in the history that is handed out for the line and in the log, then the line may want
-- memory for the entry that is due there.
abbrev pub RefusedStep : (Option Entry → Type 0) → BoardSeen → List LineNo → List SleepEntry
    → List LineReport → Type 0
RefusedStep may_want b armed g reports =
    WantsNext may_want (IsHandedRoom reports) (slept b) armed b.picks g
