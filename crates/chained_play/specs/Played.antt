-- What a board's play behind a demultiplexer answers, and what is printed of it.
use Rattle.std.specs.Prelude.{◌≡◌, ℕ, Option, Result, List, reverse}
use Rattle.irq_base.specs.declared.devices.Run.{Run}
use Rattle.irq_base.specs.declared.entries.Entry.{Entry}
use Rattle.irq_base.specs.declared.reporting.LineReport.{LineReport}
use Rattle.irq_line.specs.declared.answers.StepRefused.{StepRefused}
use Rattle.board_core.specs.Hung.{SaysEnd, stop_of}
use Rattle.board_core.specs.Runs.{runs_of}
use Rattle.board_core.specs.Seen.{board_lines}
use Rattle.board_core.specs.declared.ends.PlayEnd.{PlayEnd}
use Rattle.board_def.specs.Layout.{layout_of}
use Rattle.board_def.specs.Seen.{BoardSeen}
use Rattle.irq_chained.specs.Chain.{children}
use Rattle.irq_chained.specs.Seen.{DemuxSeen}
use Rattle.irq_chained.specs.Turned.{IsPlay}
use Rattle.irq_chained.specs.declared.chain.ChainEntry.{ChainEntry}
use Rattle.play_report.specs.Answers.{AnswersOfSome, HandsOutStep, TellsOfSome}
use Rattle.play_report.specs.declared.failing.PlayFailed.{PlayFailed}
use Rattle.chained_play.specs.Headline.{ChainCut, ChainHandsOut, RefusedStep}
use Rattle.chained_play.specs.Rows.{chain_text}

-- the runs of handlers that the children's entries among the steps ended, the newest first
abbrev pub runs_of_steps : BoardSeen → List ChainEntry → List Run
runs_of_steps b g = runs_of b (children (reverse g))

-- What the play answers and prints, by how it ended, and for which runs handlers were called;
-- `heard` says of runs that it is these. Nothing is printed unless the play came to its end.
abbrev pub ChainsBoard : BoardSeen → (List Run → Type 0) → List LineReport → Option (List ℕ)
    → Option (List ℕ) → Result PlayEnd PlayFailed → Type 0
ChainsBoard b heard = AnswersOfSome (chain_text b) (ChainHandsOut b) (runs_of_steps b) heard

-- If a step was refused memory, it is told which step it was; `may_want` says for which entry that
-- is due a line may want memory though there is room.
abbrev pub TellsStep : (Option Entry → Type 0) → BoardSeen → List LineReport
    → Result PlayEnd PlayFailed → Type 0
TellsStep may_want b = TellsOfSome (ChainCut b) (RefusedStep may_want b)

-- what the reports hand out, and of a step that was refused memory which it was
abbrev pub HandsOutChain : (Option Entry → Type 0) → DemuxSeen → Result PlayEnd StepRefused
    → List LineReport → Type 0
HandsOutChain may_want d =
    HandsOutStep (ChainHandsOut d.board d.log) (RefusedStep may_want d.board d.log)

-- what is seen of a play that has ended
pub record ChainPlaySeen : Type 0 where
  pub demux : DemuxSeen
  pub end : Result PlayEnd StepRefused

-- a demultiplexer in which its board was played, and how the play ended
pub record IsPlayedDemux (d : DemuxSeen) (end : Result PlayEnd StepRefused) : Type 0 where
  pub layout : d.layout ≡ layout_of d.board
  pub play : IsPlay d d.board.picks (stop_of end)
  pub says : SaysEnd (board_lines d.lines) end
