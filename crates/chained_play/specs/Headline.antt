-- What holds of a board's play behind one demultiplexer, and of the reports that hand it out. The
-- steps of a log stand oldest first here; the play's definitions have the newest first.
use Rattle.std.specs.Prelude.{◌≡◌, ℕ, true, Option, Result, List}
use Rattle.irq_base.specs.declared.entries.Actor.{Actor}
use Rattle.irq_base.specs.declared.entries.Entry.{Entry}
use Rattle.irq_base.specs.declared.numbers.LineNo.{LineNo}
use Rattle.irq_base.specs.declared.reporting.LineReport.{LineReport}
use Rattle.irq_line.specs.declared.answers.StepRefused.{StepRefused}
use Rattle.board_core.specs.declared.ends.PlayEnd.{PlayEnd}
use Rattle.board_def.specs.Seen.{BoardSeen}
use Rattle.board_report.specs.Reporting.{IsHandedRoom}
use Rattle.irq_chained.specs.Chain.{chain_order}
use Rattle.irq_chained.specs.Fits.{is_for_chain}
use Rattle.irq_chained.specs.Promise.{KeepsSignals}
use Rattle.irq_chained.specs.Wanted.{WantsNext}
use Rattle.irq_chained.specs.declared.chain.ChainEntry.{ChainEntry}
use Rattle.play_report.specs.Ordered.{HandsOut, IsCut, IsDone, IsFull, IsHung}

-- what the steps keep
pub record KeepsChain (b : BoardSeen) (g : List ChainEntry) : Type 0 where
  pub fits : is_for_chain b ≡ true
  -- no child's signal is lost
  pub signals : KeepsSignals b g

-- the board was played to its end, with these steps: the play of the board by the chain's order
-- with its picks
abbrev pub ChainHeadline : BoardSeen → List ChainEntry → List LineReport → Type 0
ChainHeadline b = IsDone b (chain_order b) b.picks (KeepsChain b)

-- the board was played until nobody could move, and some actor is hung: a chain in which processor
-- 0 spins stays open
abbrev pub ChainHung : BoardSeen → List ChainEntry → List LineReport → LineNo → Actor → Type 0
ChainHung b = IsHung b (chain_order b) b.picks (KeepsChain b)

-- the board was played until an entry was due on a child whose history has the greatest length
abbrev pub ChainFull : BoardSeen → List ChainEntry → List LineReport → LineNo → ℕ → Type 0
ChainFull b = IsFull b (chain_order b) b.picks (KeepsChain b)

-- the board was played until a step was refused memory; where the order stands then are the picks
-- that are left
abbrev pub ChainCut : BoardSeen → List ChainEntry → List LineReport → Type 0
ChainCut b = IsCut b (chain_order b) b.picks (KeepsChain b)

-- what the reports hand out, by how the play ended: one of these four
abbrev pub ChainHandsOut : BoardSeen → List ChainEntry → Result PlayEnd StepRefused
    → List LineReport → Type 0
ChainHandsOut b = HandsOut b (chain_order b) b.picks (KeepsChain b)

-- The step that was refused memory: whose it was, and on which child. An enter and an exit want
-- memory for their mark. If for a child's entry there was room for one more, in the history that is
-- handed out for the child and in the log, then the child may want memory for the entry that is due
-- there.
abbrev pub RefusedStep : (Option Entry → Type 0) → BoardSeen → List ChainEntry → List LineReport
    → Type 0
RefusedStep may_want b g reports = WantsNext may_want (IsHandedRoom reports) b b.picks g
