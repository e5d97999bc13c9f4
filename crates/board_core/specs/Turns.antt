-- What a turn of an actor comes to.
use Rattle.std.specs.Prelude.{◌≡◌, ◌<◌, ◌≤◌, IsSome, IsSomeAnd, ℕ, Option, Some, None, List, []}
use Rattle.std.specs.Prelude.{Result, Ok, Err}
use Rattle.std.specs.Prelude.{◌∷◌, ◌++◌, length}
use Rattle.irq_line.specs.declared.answers.StepRefused.TheVariants as refusals
use Rattle.irq_line.specs.declared.answers.StepRefused.{StepRefused}
use Rattle.irq_base.specs.declared.entries.Actor.{Actor}
use Rattle.irq_base.specs.declared.entries.Actor.TheVariants as actors
use Rattle.irq_base.specs.declared.numbers.DevNo.{DevNo}
use Rattle.irq_base.specs.declared.numbers.LineNo.{LineNo}
use Rattle.board_def.specs.Seen.{BoardSeen}
use Rattle.board_play.specs.Lines.{BoardLine, Move, find_line, lines_after}
use Rattle.board_play.specs.Order.{line_for, due_move, actors_of}
use Rattle.board_play.specs.Play.{first_move}
use Rattle.board_core.specs.Seen.{SystemSeen, board_lines}
use Rattle.board_core.specs.declared.turns.Turn.{Turn}
use Rattle.board_core.specs.declared.turns.Turn.TheVariants as turns

-- the actor's move
abbrev pub move_of : SystemSeen → Actor → Option Move
move_of s a = due_move s.board (board_lines s.lines) a

-- the line is there, and its history has this length
abbrev pub HasLength : Option BoardLine → ℕ → Type 0
HasLength o len = IsSomeAnd o (λ x. length x.past ≡ len)

-- m was the move that is due, its line had room for it, and the log now ends with it
pub record Moves (old : SystemSeen) (due : Option Move) (m : Move) (new : SystemSeen) : Type 0 where
  pub is : due ≡ Some m
  pub room : IsSomeAnd (find_line (board_lines old.lines) m.0) (λ x. length x.past < old.board.log)
  pub board : new.board ≡ old.board
  pub layout : new.layout ≡ old.layout
  pub lines : board_lines new.lines ≡ lines_after m (board_lines old.lines)
  pub log : new.log ≡ old.log ++ m ∷ []

-- a move is due, and its line has no room: the length of its history is answered
pub record IsFullFor (s : SystemSeen) (due : Option Move) (line : LineNo) (len : ℕ) : Type 0 where
  pub move : Move
  pub is : due ≡ Some move
  pub of_line : move.0 ≡ line
  pub length : HasLength (find_line (board_lines s.lines) line) len
  pub log : len ≡ s.board.log

-- the move that is due wasn't made: its line has no room, or memory was needed and refused
abbrev pub IsRefused : SystemSeen → Option Move → StepRefused → Type 0
IsRefused s due (refusals.Full line len) = IsFullFor s due line len
IsRefused s due refusals.NoMemory = IsSome due

-- what a turn answers and leaves; `due` is the move to be made, if there is one
abbrev pub TurnsBy : SystemSeen → Option Move → Result Turn StepRefused → SystemSeen → Type 0
TurnsBy old due (Ok (turns.Moved line entry)) new = Moves old due (line, entry) new
TurnsBy old due (Ok turns.NotYet) new = (due ≡ None) × (new ≡ old)
TurnsBy old due (Err refused) new = IsRefused old due refused × (new ≡ old)

-- The actor has a move. For a thread less is known: it, or the thread of a device with a lower
-- number, has a move on its line; a line tells only the lowest of its threads.
abbrev pub CanMove : BoardSeen → List BoardLine → Actor → Type 0
CanMove b lines (actors.Thread d) =
    (lowest : DevNo) × (lowest.0 ≤ d.0)
    × (line_for b lines (actors.Thread lowest) ≡ line_for b lines (actors.Thread d))
    × IsSome (due_move b lines (actors.Thread lowest))
CanMove b lines a = IsSome (due_move b lines a)

abbrev pub MayMove : SystemSeen → Actor → Type 0
MayMove s a = CanMove s.board (board_lines s.lines) a

-- the move of the lowest actor that can move
abbrev pub lowest_move : SystemSeen → Option Move
lowest_move s = first_move s.board (board_lines s.lines) (actors_of s.board)

-- a step of the actor may need memory: it may move, and somebody can
pub record MayWant (s : SystemSeen) (a : Actor) : Type 0 where
  pub actor : MayMove s a
  pub somebody : IsSome (lowest_move s)

abbrev pub Turns : SystemSeen → Actor → Result Turn StepRefused → SystemSeen → Type 0
Turns old a (Err refusals.NoMemory) new = MayWant old a × (new ≡ old)
Turns old a turn new = TurnsBy old (move_of old a) turn new
