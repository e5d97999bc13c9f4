-- What a board's sleep answers, and what is printed of it.
use Rattle.std.specs.Prelude.{◌≡◌, ℕ, true, Option, Result, List, reverse}
use Rattle.irq_base.specs.declared.devices.Run.{Run}
use Rattle.irq_base.specs.declared.entries.Entry.{Entry}
use Rattle.irq_base.specs.declared.numbers.LineNo.{LineNo}
use Rattle.irq_base.specs.declared.reporting.LineReport.{LineReport}
use Rattle.irq_line.specs.declared.answers.StepRefused.{StepRefused}
use Rattle.board_core.specs.Runs.{runs_of}
use Rattle.board_def.specs.Layout.{layout_of}
use Rattle.board_def.specs.Rules.{IsBoard}
use Rattle.board_def.specs.Seen.{BoardSeen}
use Rattle.board_def.specs.Unnamed.{defs_of}
use Rattle.board_layout.specs.Laid.{paths_of}
use Rattle.domain_hier.specs.Hierarchies.{HierarchySeen}
use Rattle.domain_rules.specs.declared.layouts.Placement.{Placement}
use Rattle.irq_pm.specs.SleepLog.{moves_of}
use Rattle.irq_pm.specs.SleptBoard.{is_for_sleep, slept}
use Rattle.irq_pm.specs.declared.entries.SleepEntry.{SleepEntry}
use Rattle.irq_sleeper.specs.Seen.{SleeperSeen, log_of}
use Rattle.irq_sleeper.specs.Steps.{IsSleep, IsTold}
use Rattle.board_core.specs.Hung.{SaysEnd, stop_of}
use Rattle.board_core.specs.Seen.{board_lines}
use Rattle.board_core.specs.declared.ends.PlayEnd.{PlayEnd}
use Rattle.play_report.specs.Answers.{AnswersOfSome, HandsOutStep, TellsOfSome}
use Rattle.play_report.specs.declared.failing.PlayFailed.{PlayFailed}
use Rattle.sleep_play.specs.Headline.{RefusedStep, SleepCut, SleepHandsOut}
use Rattle.sleep_play.specs.Rows.{sleep_text}

-- the runs of handlers that the moves among the steps and marks ended, the newest first
abbrev pub runs_of_steps : BoardSeen → List SleepEntry → List Run
runs_of_steps b g = runs_of (slept b) (moves_of (reverse g))

-- What the sleep answers and prints, by how it ended, and for which runs handlers were called;
-- `heard` says of runs that it is these. Nothing is printed unless the sleep came to its end.
abbrev pub SleepsBoard : BoardSeen → List LineNo → (List Run → Type 0) → List LineReport
    → Option (List ℕ) → Option (List ℕ) → Result PlayEnd PlayFailed → Type 0
SleepsBoard b armed heard =
    AnswersOfSome (sleep_text b) (SleepHandsOut b armed) (runs_of_steps b) heard

-- If a step was refused memory, it is told which step it was; `may_want` says for which entry that
-- is due a line may want memory though there is room.
abbrev pub TellsStep : (Option Entry → Type 0) → BoardSeen → List LineNo → List LineReport
    → Result PlayEnd PlayFailed → Type 0
TellsStep may_want b armed = TellsOfSome (SleepCut b armed) (RefusedStep may_want b armed)

-- what is seen of a sleep that has ended
pub record SleepPlaySeen : Type 0 where
  pub sleeper : SleeperSeen
  pub end : Result PlayEnd StepRefused

-- a sleeper in which its board, which has the system's driver, was played, and how the play ended
pub record IsPlayedSleeper (s : SleeperSeen) (end : Result PlayEnd StepRefused) : Type 0 where
  pub layout : s.system.layout ≡ layout_of s.system.board
  pub told : IsTold s
  pub sleep : IsSleep s s.system.board.picks (stop_of end)
  pub says : SaysEnd (board_lines s.system.lines) end

-- the longer board is board b with the system's driver, which can sleep with these lines armed
pub record IsLongerOf (b : BoardSeen) (armed : List LineNo) (longer : BoardSeen) : Type 0 where
  pub board : IsBoard b
  pub fits : is_for_sleep b armed ≡ true
  pub slept : longer ≡ slept b

-- the hierarchy has the board's domains and the paths of its lines, and this is its layout
pub record IsLaidOut (b : BoardSeen) (h : HierarchySeen) (laid : List Placement) : Type 0 where
  pub domains : h.domains ≡ defs_of b.domains
  pub paths : h.paths ≡ paths_of (layout_of b)
  pub layout : laid ≡ layout_of b

-- it is board b that sleeps in it, with these lines armed
pub record IsSleepOf (b : BoardSeen) (armed : List LineNo) (s : SleeperSeen) : Type 0 where
  pub longer : IsLongerOf b armed s.system.board
  pub watched : s.watch.armed ≡ armed

-- what the reports hand out, and of a step that was refused memory which it was, whichever board it
-- is
abbrev pub HandsOutSleep : (Option Entry → Type 0) → SleeperSeen → Result PlayEnd StepRefused
    → List LineReport → Type 0
HandsOutSleep may_want s end reports =
    (b : BoardSeen) (armed : List LineNo) → IsSleepOf b armed s
    → HandsOutStep (SleepHandsOut b armed (log_of s)) (RefusedStep may_want b armed (log_of s)) end
    reports
