-- For which step of a system memory was refused.
use Rattle.std.specs.Prelude.{◌≡◌, ◌≤◌, ℕ, IsSome, Option, Some, List, length, reverse, slice_get}
use Rattle.std.specs.Prelude.{Result, Err}
use Rattle.irq_line.specs.declared.answers.StepRefused.TheVariants as refusals
use Rattle.irq_line.specs.declared.answers.StepRefused.{StepRefused}
use Rattle.irq_base.specs.declared.entries.Actor.{Actor}
use Rattle.irq_base.specs.declared.entries.Entry.{Entry}
use Rattle.irq_base.specs.declared.numbers.LineNo.{LineNo}
use Rattle.irq_line.specs.Seen.{LineSeen}
use Rattle.irq_model.specs.Next.{next_past}
use Rattle.board_def.specs.Seen.{BoardSeen}
use Rattle.board_play.specs.Lines.{BoardLine, Move, lines_of}
use Rattle.board_play.specs.Order.{due_move, line_for}
use Rattle.board_play.specs.Play.{IsChosen, choice}
use Rattle.board_core.specs.Pieces.{EndsPiece}
use Rattle.board_core.specs.Seen.{SystemSeen, board_lines}
use Rattle.board_core.specs.Turns.{CanMove, lowest_move, move_of}
use Rattle.board_core.specs.declared.turns.Turn.{Turn}

-- A step of the actor on this line was refused memory. If there was room for one more entry, both
-- in the line's history, as `room` says, and in the log, which has this many moves, then the line
-- may want memory for the entry that is due of the actor there.
pub record WantedMemory (may_want : Option Entry → Type 0) (room : LineNo → Type 0) (moves : ℕ)
    (on : Option BoardLine) (a : Actor) : Type 0 where
  pub line : BoardLine
  pub is : on ≡ Some line
  pub wanted : room line.def.line → (EndsPiece moves → ⊥)
      → may_want (next_past line.def line.past a)

-- A step of the actor on this line was refused memory, and the log wanted none. If there was room
-- for one more entry in the line's history, as `room` says, then the line may want memory for the
-- entry that is due of the actor there.
pub record WantedByLine (may_want : Option Entry → Type 0) (room : LineNo → Type 0)
    (on : Option BoardLine) (a : Actor) : Type 0 where
  pub line : BoardLine
  pub is : on ≡ Some line
  pub wanted : room line.def.line → may_want (next_past line.def line.past a)

-- the line of this number has room for one more entry
abbrev pub HasSpare : List LineSeen → LineNo → Type 0
HasSpare lines number =
    (k : ℕ) (x : LineSeen) → slice_get lines k ≡ Some x → x.def.line ≡ number → 1 ≤ x.spare

-- a turn's step on this line was refused memory
abbrev pub WantsOn : (Option Entry → Type 0) → SystemSeen → Option BoardLine → Actor
    → Result Turn StepRefused
    → Type 0
WantsOn may_want s on a (Err refusals.NoMemory) =
    WantedMemory may_want (HasSpare s.lines) (length s.log) on a
WantsOn may_want s on a turn = Unit {0}

-- a turn's step was refused memory, on the line where the actor steps
abbrev pub Wants : (Option Entry → Type 0) → SystemSeen → Actor → Result Turn StepRefused → Type 0
Wants may_want s a turn = WantsOn may_want s (line_for s.board (board_lines s.lines) a) a turn

-- the step of the lowest actor that can move was refused memory
pub record WantsLowest (may_want : Option Entry → Type 0) (s : SystemSeen) : Type 0 where
  pub actor : Actor
  pub lowest : lowest_move s ≡ move_of s actor
  pub step : WantedMemory may_want (HasSpare s.lines) (length s.log)
      (line_for s.board (board_lines s.lines) actor) actor

abbrev pub LowestWants : (Option Entry → Type 0) → SystemSeen → Result Turn StepRefused → Type 0
LowestWants may_want s (Err refusals.NoMemory) = WantsLowest may_want s
LowestWants may_want s turn = Unit {0}

abbrev pub EndWants : (Option Entry → Type 0) → SystemSeen → Result Unit StepRefused → Type 0
EndWants may_want s (Err refusals.NoMemory) = WantsLowest may_want s
EndWants may_want s end = Unit {0}

-- the step of the lowest actor that can move was refused memory, and the log wanted none
pub record LowestWantsByLine (may_want : Option Entry → Type 0) (s : SystemSeen) : Type 0 where
  pub actor : Actor
  pub lowest : lowest_move s ≡ move_of s actor
  pub step : WantedByLine may_want (HasSpare s.lines)
      (line_for s.board (board_lines s.lines) actor) actor

abbrev pub SettleWants : (Option Entry → Type 0) → SystemSeen → Result Unit StepRefused → Type 0
SettleWants may_want s (Err refusals.NoMemory) = LowestWantsByLine may_want s
SettleWants may_want s end = Unit {0}

-- The board was played with these picks and these moves, the oldest first, and then a step was
-- refused memory. `left` are the picks that are left; there is a next move. If the actor of the
-- step can move, its move is the next one.
pub record WantsNext (may_want : Option Entry → Type 0) (room : LineNo → Type 0) (b : BoardSeen)
    (picks : List Actor) (g : List Move) : Type 0 where
  pub left : List Actor
  pub so_far : IsChosen b picks (reverse g) left
  pub some : IsSome (choice b (lines_of b (reverse g)) left)
  pub actor : Actor
  pub can : CanMove b (lines_of b (reverse g)) actor
  pub next : (m : Move) → due_move b (lines_of b (reverse g)) actor ≡ Some m
      → (after : List Actor) × (choice b (lines_of b (reverse g)) left ≡ Some (m, after))
  pub step : WantedMemory may_want room (length g) (line_for b (lines_of b (reverse g)) actor)
      actor

abbrev pub PlayWants : (Option Entry → Type 0) → SystemSeen → List Actor → Result Unit StepRefused
    → Type 0
PlayWants may_want s picks (Err refusals.NoMemory) =
    WantsNext may_want (HasSpare s.lines) s.board picks s.log
PlayWants may_want s picks end = Unit {0}
