-- What a board's run answers, and what is printed of it.
use Rattle.std.specs.Prelude.{◌≡◌, ℕ, Bool, IsSome, Option, None, Result, Ok, Err, List, []}
use Rattle.irq_base.specs.declared.devices.Answer.{Answer}
use Rattle.irq_base.specs.declared.devices.Run.{Run}
use Rattle.irq_base.specs.declared.entries.Actor.{Actor}
use Rattle.irq_base.specs.declared.entries.Entry.{Entry}
use Rattle.irq_base.specs.declared.numbers.LineNo.{LineNo}
use Rattle.irq_base.specs.declared.reporting.LineReport.{LineReport}
use Rattle.irq_line.specs.declared.answers.StepRefused.{StepRefused}
use Rattle.irq_line.specs.declared.answers.StepRefused.TheVariants as refusals
use Rattle.board_core.specs.Playing.{Ends}
use Rattle.board_core.specs.Seen.{SystemSeen}
use Rattle.board_core.specs.Wanted.{WantedByLine}
use Rattle.board_def.specs.Layout.{layout_of}
use Rattle.board_def.specs.Seen.{BoardSeen}
use Rattle.board_play.specs.Kept.{AreKept}
use Rattle.board_play.specs.Lines.{Move}
use Rattle.board_play.specs.Order.{actors_of, due_move, line_for}
use Rattle.board_play.specs.Play.{first_move}
use Rattle.board_core.specs.declared.ends.PlayEnd.{PlayEnd}
use Rattle.board_core.specs.declared.ends.PlayEnd.TheVariants as ends
use Rattle.board_report.specs.Headline.{FullLog, Headline, Histories, SoFar, histories_of}
use Rattle.board_report.specs.Hung.{HungBoard}
use Rattle.board_report.specs.Reporting.{IsHandedRoom}
use Rattle.play_report.specs.Answers.{Answers, HandsOutStep}
use Rattle.play_report.specs.declared.failing.PlayFailed.{PlayFailed}
use Rattle.play_report.specs.declared.failing.PlayFailed.TheVariants as fails
use Rattle.irq_run.specs.Given.{EachGiven, lines_with}
use Rattle.irq_run.specs.Report.{run_text}

-- the move of the lowest actor that can move after these histories
abbrev pub next_move : BoardSeen → Histories → Option Move
next_move b entries = first_move b (lines_with b entries) (actors_of b)

-- the run ended when nobody could move, and some actor is hung, and the reports hand out the run
pub record IsRunHung (b : BoardSeen) (entries : Histories) (reports : List LineReport)
    (line : LineNo) (actor : Actor) : Type 0 where
  pub hung : HungBoard b entries reports line actor
  -- the drivers' calls were made in the order of their scripts
  pub kept : AreKept b (lines_with b entries)
  -- no actor can move
  pub still : next_move b entries ≡ None

-- the run ended when this line's history had the greatest length, and the reports hand out the run
pub record IsRunFull (b : BoardSeen) (entries : Histories) (reports : List LineReport)
    (line : LineNo) (len : ℕ) : Type 0 where
  pub full : FullLog b entries reports line len
  -- the drivers' calls were made in the order of their scripts
  pub kept : AreKept b (lines_with b entries)

-- the run ended when a step was refused memory, and the reports hand out the run up to it
pub record IsRunCut (b : BoardSeen) (entries : Histories) (reports : List LineReport)
    : Type 0 where
  pub so_far : SoFar b entries reports
  -- the drivers' calls were made in the order of their scripts
  pub kept : AreKept b (lines_with b entries)
  -- an actor can move
  pub further : IsSome (next_move b entries)

-- what the reports hand out of a run with these histories, by how it ended
abbrev pub HandsOut : BoardSeen → Histories → Result PlayEnd StepRefused → List LineReport → Type 0
HandsOut b entries (Ok ends.Settled) reports = Headline b entries reports
HandsOut b entries (Ok (ends.Hung line actor)) reports = IsRunHung b entries reports line actor
HandsOut b entries (Err (refusals.Full line len)) reports = IsRunFull b entries reports line len
HandsOut b entries (Err refusals.NoMemory) reports = IsRunCut b entries reports

-- The step that was refused memory: whose it was, and on which line; the actor's move was the next
-- one. If there was room for one more entry in the history that is handed out for the line, then
-- the line may want memory for the entry that is due there.
pub record RefusedStep (may_want : Option Entry → Type 0) (b : BoardSeen) (entries : Histories)
    (reports : List LineReport) : Type 0 where
  pub actor : Actor
  pub next : next_move b entries ≡ due_move b (lines_with b entries) actor
  pub step : WantedByLine may_want (IsHandedRoom reports)
      (line_for b (lines_with b entries) actor) actor

-- a run with some histories, of which this holds; each run of a handler that ended in them was
-- answered by a call, as `gave` says
pub record HasRun (gave : Run → Answer → Type 0) (b : BoardSeen) (Reports : Histories → Type 0)
    : Type 0 where
  pub entries : Histories
  pub given : EachGiven gave (lines_with b entries)
  pub reports : Reports entries

-- What the whole call answers and prints, by how it ended. Nothing is printed unless the run came
-- to
-- its end. If memory was refused for anything but a step, nothing is handed out.
abbrev pub RunsBoard : (gave : Run → Answer → Type 0) → BoardSeen → Bool → List LineReport
    → Option (List ℕ) → Option (List ℕ) → Result PlayEnd PlayFailed → Type 0
RunsBoard gave b summary reports before now (Err fails.NoMemory) = reports ≡ []
RunsBoard gave b summary reports before now end =
    HasRun gave b (λ entries. Answers (run_text b summary (histories_of b entries))
    (HandsOut b entries) reports before now end)

-- If a step was refused memory, it is told which step it was; `may_want` says for which entry that
-- is due a line may want memory though there is room.
abbrev pub TellsStep : (Option Entry → Type 0) → BoardSeen → List LineReport
    → Result PlayEnd PlayFailed → Type 0
TellsStep may_want b reports (Err (fails.Step refusals.NoMemory)) = (entries : Histories)
    × IsRunCut b entries reports × RefusedStep may_want b entries reports
TellsStep may_want b reports end = Unit {0}

-- ---- a run that has ended

-- a system of the board's lines after a run, and how settling it ended
pub record IsRun (b : BoardSeen) (s : SystemSeen) (end : Result Unit StepRefused) : Type 0 where
  pub board : s.board ≡ b
  pub layout : s.layout ≡ layout_of b
  pub ends : Ends s end

-- what is answered and printed of a run with these histories, by how it ended, and of a step that
-- was refused memory which it was
abbrev pub ReportsRun : (Option Entry → Type 0) → BoardSeen → Bool → Histories → List LineReport
    → Option (List ℕ) → Option (List ℕ) → Result PlayEnd PlayFailed → Type 0
ReportsRun may_want b summary entries = Answers (run_text b summary (histories_of b entries))
    (HandsOutStep (HandsOut b entries) (RefusedStep may_want b entries))
