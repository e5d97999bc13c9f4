-- What a board's play answers, and what is printed of it.
use Rattle.std.specs.Prelude.{◌≡◌, ℕ, Bool, Option, Result, List, length, reverse}
use Rattle.irq_base.specs.declared.devices.Run.{Run}
use Rattle.irq_base.specs.declared.entries.Entry.{Entry}
use Rattle.irq_base.specs.declared.reporting.LineReport.{LineReport}
use Rattle.irq_line.specs.declared.answers.StepRefused.{StepRefused}
use Rattle.board_def.specs.Layout.{layout_of}
use Rattle.board_def.specs.Seen.{BoardSeen}
use Rattle.board_core.specs.Hung.{SaysEnd, stop_of}
use Rattle.board_core.specs.Playing.{IsFresh, IsPlay}
use Rattle.board_core.specs.Runs.{runs_of}
use Rattle.board_core.specs.Seen.{SystemSeen, board_lines}
use Rattle.board_core.specs.declared.ends.PlayEnd.{PlayEnd}
use Rattle.board_play.specs.Lines.{Move, lines_of}
use Rattle.board_report.specs.Reporting.{HasRoom}
use Rattle.board_report.specs.declared.reporting.ReportRoom.{ReportRoom}
use Rattle.irq_play.specs.Headline.{CutShort, HandsOut, RefusedStep}
use Rattle.irq_play.specs.Report.{report_text}
use Rattle.play_report.specs.Answers.{AnswersOfSome, HandsOutStep, TellsOfSome}
use Rattle.play_report.specs.declared.failing.PlayFailed.{PlayFailed}

-- the runs of handlers that the moves of a play ended, the newest first
abbrev pub runs_of_moves : BoardSeen → List Move → List Run
runs_of_moves b moves = runs_of b (reverse moves)

-- What the play answers and prints, by how it ended, and for which runs handlers were called;
-- `heard` says of runs that it is these. Nothing is printed unless the play came to its end.
abbrev pub PlaysBoard : BoardSeen → Bool → (List Run → Type 0) → List LineReport → Option (List ℕ)
    → Option (List ℕ) → Result PlayEnd PlayFailed → Type 0
PlaysBoard b summary heard =
    AnswersOfSome (report_text b summary) (HandsOut b) (runs_of_moves b) heard

-- If a step was refused memory, it is told which step it was; `may_want` says for which entry that
-- is due a line may want memory though there is room.
abbrev pub TellsStep : (Option Entry → Type 0) → BoardSeen → List LineReport
    → Result PlayEnd PlayFailed → Type 0
TellsStep may_want b = TellsOfSome (CutShort b) (RefusedStep may_want b)

-- the board's lines, to which nothing has happened, and room for a report for each line
pub record IsReady (b : BoardSeen) (s : SystemSeen) (for_reports : ReportRoom) : Type 0 where
  pub board : s.board ≡ b
  pub layout : s.layout ≡ layout_of b
  pub fresh : IsFresh s
  pub room : HasRoom (length b.lines) for_reports

-- what is seen of a play that has ended
pub record StatedPlaySeen : Type 0 where
  pub system : SystemSeen
  pub end : Result PlayEnd StepRefused

-- A system in which its board was played, and how the play ended. If memory was refused, the system
-- is as the play so far left it, and a next move is due.
pub record IsPlayed (s : SystemSeen) (end : Result PlayEnd StepRefused) : Type 0 where
  pub layout : s.layout ≡ layout_of s.board
  pub lines : board_lines s.lines ≡ lines_of s.board (reverse s.log)
  pub play : IsPlay s s.board.picks (stop_of end)
  pub says : SaysEnd (board_lines s.lines) end

-- what the reports hand out of the system, and of a step that was refused memory which it was
abbrev pub HandsOutSystem : (Option Entry → Type 0) → SystemSeen → Result PlayEnd StepRefused
    → List LineReport → Type 0
HandsOutSystem may_want s =
    HandsOutStep (HandsOut s.board s.log) (RefusedStep may_want s.board s.log)
