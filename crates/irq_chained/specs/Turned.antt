-- What a turn of a demultiplexer comes to, and a play.
use Rattle.std.specs.Prelude.{◌≡◌, ◌<◌, ℕ, IfSome, IsSome, IsSomeAnd, Option, Some, None, List}
use Rattle.std.specs.Prelude.{[], ◌∷◌, ◌++◌, length, reverse, Result, Ok, Err}
use Rattle.irq_base.specs.declared.entries.Actor.{Actor}
use Rattle.irq_base.specs.declared.entries.Actor.TheVariants as actors
use Rattle.irq_base.specs.declared.numbers.LineNo.{LineNo}
use Rattle.irq_line.specs.declared.answers.StepRefused.{StepRefused}
use Rattle.irq_line.specs.declared.answers.StepRefused.TheVariants as refusals
use Rattle.board_play.specs.Lines.{BoardLine, Move, find_line, part}
use Rattle.board_play.specs.Order.{actors_of, drivers_of}
use Rattle.board_play.specs.Play.{Done, Full}
use Rattle.board_core.specs.declared.turns.Turn.{Turn}
use Rattle.board_core.specs.declared.turns.Turn.TheVariants as moves
use Rattle.board_play.specs.Orders.{IsMade, IsPlayed}
use Rattle.irq_chained.specs.Chain.{chain_next, chain_order, children, first_step, lines_in, told}
use Rattle.irq_chained.specs.Seen.{DemuxSeen}
use Rattle.irq_chained.specs.declared.chain.ChainEntry.{ChainEntry}
use Rattle.irq_chained.specs.declared.chain.ChainEntry.TheVariants as steps
use Rattle.irq_chained.specs.declared.chain.ChainTurn.{ChainTurn}
use Rattle.irq_chained.specs.declared.chain.ChainTurn.TheVariants as turns

-- the lines after the steps so far
abbrev pub lines_now : DemuxSeen → List BoardLine
lines_now d = lines_in d.board (reverse d.log)

-- the line that the step moves, if it moves one, has room for it
abbrev pub HasRoomFor : DemuxSeen → ChainEntry → Type 0
HasRoomFor d e =
    IfSome (told e) (λ m. IsSomeAnd (find_line (lines_now d) m.0)
    (λ x. length x.past < d.board.log))

-- e was the next step, its line had room for it, and the log now ends with it
pub record Goes (old : DemuxSeen) (due : Option ChainEntry) (e : ChainEntry) (new : DemuxSeen)
    : Type 0 where
  pub is : due ≡ Some e
  pub room : HasRoomFor old e
  pub board : new.board ≡ old.board
  pub layout : new.layout ≡ old.layout
  pub log : new.log ≡ old.log ++ e ∷ []

-- an entry of a child is due, and its history has the greatest length, which is answered
pub record IsFullFor (d : DemuxSeen) (due : Option ChainEntry) (line : LineNo) (len : ℕ)
    : Type 0 where
  pub step : ChainEntry
  pub is : due ≡ Some step
  pub move : Move
  pub tells : told step ≡ Some move
  pub of_line : move.0 ≡ line
  pub length : length (part line (children (reverse d.log))) ≡ len
  pub log : len ≡ d.board.log

-- the actor's next step
abbrev pub next_of : DemuxSeen → Actor → Option ChainEntry
next_of d a = chain_next d.board (reverse d.log) a

-- the step of the lowest actor that has one
abbrev pub lowest_of : DemuxSeen → Option ChainEntry
lowest_of d = first_step (chain_next d.board (reverse d.log)) (actors_of d.board)

abbrev pub lowest_driver_of : DemuxSeen → Option ChainEntry
lowest_driver_of d = first_step (chain_next d.board (reverse d.log)) (drivers_of d.board)

-- the step that is due wasn't made: its child's history is full, or memory was needed, which it is
-- only while somebody has a step
abbrev pub IsRefused : DemuxSeen → Option ChainEntry → StepRefused → Type 0
IsRefused d due (refusals.Full line len) = IsFullFor d due line len
IsRefused d due refusals.NoMemory = IsSome (lowest_of d)

-- what a turn answers and leaves; `due` is the step to be made, if there is one
abbrev pub TurnsBy : DemuxSeen → Option ChainEntry → Result ChainTurn StepRefused → DemuxSeen
    → Type 0
TurnsBy old due (Ok (turns.Moved e)) new = Goes old due e new
TurnsBy old due (Ok turns.NotYet) new = (due ≡ None) × (new ≡ old)
TurnsBy old due (Err refused) new = IsRefused old due refused × (new ≡ old)

-- a thread, or a driver
abbrev pub IsOther : Actor → Type 0
IsOther (actors.Thread d) = Unit {0}
IsOther (actors.Cpu c) = ⊥
IsOther (actors.Driver r) = Unit {0}

-- the answer, by what the system answered of the children
abbrev pub turn_of : Result Turn StepRefused → Result ChainTurn StepRefused
turn_of (Ok (moves.Moved line entry)) = Ok (turns.Moved (steps.Child line entry))
turn_of (Ok moves.NotYet) = Ok turns.NotYet
turn_of (Err refused) = Err refused

-- each step so far was the next one; `rest` are the picks that are left, perhaps without some that
-- have no step
pub record IsUnderway (d : DemuxSeen) (picks rest : List Actor) : Type 0 where
  pub left : List Actor
  pub made : IsMade (chain_order d.board) picks (reverse d.log) left
  pub next : (chain_order d.board).next (reverse d.log) left
      ≡ (chain_order d.board).next (reverse d.log) rest

-- The log is the play of the board by the chain's order, done or full as was answered; a full one
-- says the length. If memory was refused it is the play so far, and a further step is due.
abbrev pub IsPlay : DemuxSeen → List Actor → Result Unit StepRefused → Type 0
IsPlay d picks (Ok _) = IsPlayed (chain_order d.board) picks (reverse d.log) Done
IsPlay d picks (Err (refusals.Full line len)) =
    IsPlayed (chain_order d.board) picks (reverse d.log) (Full line)
    × (length (part line (children (reverse d.log))) ≡ len)
IsPlay d picks (Err refusals.NoMemory) =
    (left : List Actor) × IsMade (chain_order d.board) picks (reverse d.log) left
    × IsSome ((chain_order d.board).next (reverse d.log) left)
