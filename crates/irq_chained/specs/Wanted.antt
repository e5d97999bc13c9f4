-- For which step of a demultiplexer memory was refused.
use Rattle.std.specs.Prelude.{◌≡◌, ℕ, IsSome, Option, Some, None, Result, Err, List, length}
use Rattle.std.specs.Prelude.{reverse}
use Rattle.irq_base.specs.declared.entries.Actor.{Actor}
use Rattle.irq_base.specs.declared.entries.Actor.TheVariants as actors
use Rattle.irq_base.specs.declared.entries.Entry.{Entry}
use Rattle.irq_base.specs.declared.numbers.LineNo.{LineNo}
use Rattle.irq_line.specs.declared.answers.StepRefused.{StepRefused}
use Rattle.irq_line.specs.declared.answers.StepRefused.TheVariants as refusals
use Rattle.board_def.specs.Seen.{BoardSeen}
use Rattle.board_play.specs.Lines.{BoardLine}
use Rattle.board_play.specs.Order.{flow_line, line_for, or_line}
use Rattle.board_core.specs.Turns.{CanMove}
use Rattle.board_core.specs.Wanted.{HasSpare, WantedMemory}
use Rattle.board_play.specs.Orders.{IsMade}
use Rattle.irq_chained.specs.Chain.{chain_next, chain_order, children, cpu_0, first_left}
use Rattle.irq_chained.specs.Chain.{lines_in, open_status}
use Rattle.irq_chained.specs.Seen.{DemuxSeen}
use Rattle.irq_chained.specs.Turned.{next_of}
use Rattle.irq_chained.specs.declared.chain.ChainEntry.{ChainEntry}
use Rattle.irq_chained.specs.declared.chain.ChainEntry.TheVariants as steps
use Rattle.irq_chained.specs.declared.chain.ChainTurn.{ChainTurn}

-- where processor 0 goes on in an open chain: on the child that has its flow, else on the first
-- child of the status that is left
abbrev pub line_in_chain : List ChainEntry → List BoardLine → Option ℕ → Option BoardLine
line_in_chain g lines None = None
line_in_chain g lines (Some status) =
    or_line (flow_line lines cpu_0) (first_left g lines status)

-- the child on which an entry of the actor would be its next step
abbrev pub child_for : BoardSeen → List ChainEntry → Actor → Option BoardLine
child_for b g (actors.Cpu c) = line_in_chain g (lines_in b g) (open_status g)
child_for b g a = line_for b (lines_in b g) a

-- The actor has a step. For a thread less is known, as on any board.
abbrev pub CanStep : BoardSeen → List ChainEntry → Actor → Type 0
CanStep b g (actors.Cpu c) = IsSome (chain_next b g (actors.Cpu c))
CanStep b g a = CanMove b (lines_in b g) a

-- an enter and an exit want memory for their mark; what an entry of a child wants, `child` says
abbrev pub WantsFor : Option ChainEntry → (child : Type 0) → Type 0
WantsFor (Some (steps.Enter cpu status)) child = Unit {0}
WantsFor (Some (steps.Exit cpu)) child = Unit {0}
WantsFor _ child = child

-- The actor's step was refused memory: that of a mark, or an entry of a child, for which the line
-- may want memory where there was room for it, both in the child's history, as `room` says, and
-- among the moves.
pub record WantsStep (may_want : Option Entry → Type 0) (room : LineNo → Type 0) (b : BoardSeen)
    (g : List ChainEntry) (a : Actor) : Type 0 where
  pub can : CanStep b g a
  pub step : WantsFor (chain_next b g a)
      (WantedMemory may_want room (length (children g)) (child_for b g a) a)

-- a turn's step was refused memory
abbrev pub Wants : (Option Entry → Type 0) → DemuxSeen → Actor → Result ChainTurn StepRefused
    → Type 0
Wants may_want d a (Err refusals.NoMemory) =
    WantsStep may_want (HasSpare d.lines) d.board (reverse d.log) a
Wants may_want d a turn = Unit {0}

-- the step that was due was refused memory: it is this actor's
pub record WantsDue (may_want : Option Entry → Type 0) (d : DemuxSeen) (due : Option ChainEntry)
    : Type 0 where
  pub actor : Actor
  pub its : due ≡ next_of d actor
  pub step : WantsStep may_want (HasSpare d.lines) d.board (reverse d.log) actor

abbrev pub DueWants : (Option Entry → Type 0) → DemuxSeen → Option ChainEntry
    → Result ChainTurn StepRefused → Type 0
DueWants may_want d due (Err refusals.NoMemory) = WantsDue may_want d due
DueWants may_want d due turn = Unit {0}

-- The board was played with these picks and these steps, the oldest first, and then a step was
-- refused memory. `left` are the picks that are left; there is a next step. If the actor of the
-- step that was refused has one, it is the next one.
pub record WantsNext (may_want : Option Entry → Type 0) (room : LineNo → Type 0) (b : BoardSeen)
    (picks : List Actor) (g : List ChainEntry) : Type 0 where
  pub left : List Actor
  pub so_far : IsMade (chain_order b) picks (reverse g) left
  pub some : IsSome ((chain_order b).next (reverse g) left)
  pub actor : Actor
  pub next : (e : ChainEntry) → chain_next b (reverse g) actor ≡ Some e
      → (after : List Actor) × ((chain_order b).next (reverse g) left ≡ Some (e, after))
  pub step : WantsStep may_want room b (reverse g) actor

abbrev pub PlayWants : (Option Entry → Type 0) → DemuxSeen → List Actor → Result Unit StepRefused
    → Type 0
PlayWants may_want d picks (Err refusals.NoMemory) =
    WantsNext may_want (HasSpare d.lines) d.board picks d.log
PlayWants may_want d picks end = Unit {0}
