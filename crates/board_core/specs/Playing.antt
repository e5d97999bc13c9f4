-- What a play of a system comes to.
use Rattle.std.specs.Prelude.{◌≡◌, ◌<◌, IsSome, IsSomeAnd, Some, None, List, [], ◌∷◌, ◌++◌}
use Rattle.std.specs.Prelude.{Result, Ok, Err}
use Rattle.std.specs.Prelude.{length, reverse}
use Rattle.irq_line.specs.declared.answers.StepRefused.TheVariants as refusals
use Rattle.irq_line.specs.declared.answers.StepRefused.{StepRefused}
use Rattle.irq_base.specs.declared.entries.Actor.{Actor}
use Rattle.board_def.specs.Seen.{BoardSeen}
use Rattle.board_play.specs.Lines.{BoardLine, Move, find_line, lines_after, lines_of, part}
use Rattle.board_play.specs.Order.{actors_of}
use Rattle.board_play.specs.Play.{Done, Full, first_move, choice, IsChosen, Plays}
use Rattle.board_core.specs.Seen.{SystemSeen, board_lines}
use Rattle.board_core.specs.Turns.{IsRefused, lowest_move}

-- nothing has happened: the histories and the log are empty
pub record IsFresh (s : SystemSeen) : Type 0 where
  pub lines : board_lines s.lines ≡ lines_of s.board []
  pub log : s.log ≡ []

-- each move so far was the next one; `rest` are the picks that are left, perhaps without some that
-- can't move
pub record IsUnderway (s : SystemSeen) (picks rest : List Actor) : Type 0 where
  pub lines : board_lines s.lines ≡ lines_of s.board (reverse s.log)
  pub left : List Actor
  pub chosen : IsChosen s.board picks (reverse s.log) left
  pub next : choice s.board (board_lines s.lines) left ≡ choice s.board (board_lines s.lines) rest

-- The log is the play of the board with these picks, done or full as was answered; a full one says
-- the length. If memory was refused it is the play so far, and there is a next move.
abbrev pub IsPlay : SystemSeen → List Actor → Result Unit StepRefused → Type 0
IsPlay s picks (Ok _) = Plays s.board picks (reverse s.log) Done
IsPlay s picks (Err (refusals.Full line len)) =
    Plays s.board picks (reverse s.log) (Full line) × (length (part line (reverse s.log)) ≡ len)
IsPlay s picks (Err refusals.NoMemory) = (left : List Actor)
    × IsChosen s.board picks (reverse s.log) left
    × IsSome (choice s.board (lines_of s.board (reverse s.log)) left)

-- no actor can move, or the move of the lowest actor that can was refused
abbrev pub Ends : SystemSeen → Result Unit StepRefused → Type 0
Ends s (Ok _) = lowest_move s ≡ None
Ends s (Err refused) = IsRefused s (lowest_move s) refused

-- the lines after all these moves; the list begins with the newest
abbrev pub lines_after_all : List Move → List BoardLine → List BoardLine
lines_after_all [] lines = lines
lines_after_all (m ∷ g) lines = lines_after m (lines_after_all g lines)

-- it is the move of the lowest actor that can move on these lines, and its line has room for it
pub record IsLowestMove (board : BoardSeen) (lines : List BoardLine) (m : Move) : Type 0 where
  pub is : first_move board lines (actors_of board) ≡ Some m
  pub room : IsSomeAnd (find_line lines m.0) (λ x. length x.past < board.log)

-- each of the moves was that of the lowest actor, on the lines as the moves before it left them
abbrev pub AreLowestMoves : BoardSeen → List BoardLine → List Move → Type 0
AreLowestMoves board lines [] = Unit {0}
AreLowestMoves board lines (m ∷ g) =
    AreLowestMoves board lines g × IsLowestMove board (lines_after_all g lines) m

-- From the old system to the new one the lowest actors moved and nobody else did: the log has their
-- moves behind the moves that it had, and each history its entries among them.
pub record Settles (old new : SystemSeen) : Type 0 where
  -- the newest first
  pub moves : List Move
  pub lowest : AreLowestMoves old.board (board_lines old.lines) moves
  pub log : new.log ≡ old.log ++ reverse moves
  pub lines : board_lines new.lines ≡ lines_after_all moves (board_lines old.lines)
