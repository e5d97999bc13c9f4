-- The play of a board: the picks first, then always the lowest actor that can move, until none can,
-- or a line's log is full (ours). The newest move comes first.
use Rattle.std.specs.Prelude.{◌≡◌, ◌<◌, Option, Some, None, List, [], ◌∷◌, length}
use Rattle.irq_base.specs.declared.entries.Actor.{Actor}
use Rattle.irq_base.specs.declared.numbers.LineNo.{LineNo}
use Rattle.board_def.specs.Seen.{BoardSeen}
use Rattle.board_play.specs.Lines.{BoardLine, Move, part, lines_of}
use Rattle.board_play.specs.Order.{due_move, actors_of}

-- how a play ends: no actor can move; or the history of the line on which the next move is due has
-- reached the log limit
pub data End : Type 0 where
  Done : End
  Full : LineNo → End

abbrev pub or_move : Option Move → Option Move → Option Move
or_move None other = other
or_move (Some m) other = Some m

-- the move of the first of the actors that can move
abbrev pub first_move : BoardSeen → List BoardLine → List Actor → Option Move
first_move board lines [] = None
first_move board lines (a ∷ rest) = or_move (due_move board lines a) (first_move board lines rest)

-- the move, with the picks that are left after it
abbrev pub with_picks : List Actor → Option Move → Option (Move × List Actor)
with_picks picks None = None
with_picks picks (Some m) = Some (m, picks)

abbrev pub or_choice : Option (Move × List Actor) → Option (Move × List Actor)
    → Option (Move × List Actor)
or_choice None other = other
or_choice (Some choice) other = Some choice

-- the next move: while picks are left, the move of the first pick that can move (the picks before
-- it are passed over); after them, the move of the lowest actor that can move
abbrev pub choice : BoardSeen → List BoardLine → List Actor → Option (Move × List Actor)
choice board lines [] = with_picks [] (first_move board lines (actors_of board))
choice board lines (pick ∷ picks) =
    or_choice (with_picks picks (due_move board lines pick)) (choice board lines picks)

-- each move was the next one, and its line had room for it; `left` are the picks that are left
abbrev pub IsChosen : BoardSeen → List Actor → List Move → List Actor → Type 0
IsChosen board picks [] left = left ≡ picks
IsChosen board picks (m ∷ g) left =
    (before : List Actor) × IsChosen board picks g before
    × (choice board (lines_of board g) before ≡ Some (m, left))
    × (length (part m.0 g) < board.log)

-- a further move is due, and the history of its line has the greatest length
pub record IsFullAt (board : BoardSeen) (g : List Move) (left : List Actor) (line : LineNo)
    : Type 0 where
  pub move : Move
  pub after : List Actor
  pub next : choice board (lines_of board g) left ≡ Some (move, after)
  pub of_line : move.0 ≡ line
  pub length : length (part line g) ≡ board.log

abbrev pub IsEnd : BoardSeen → List Move → List Actor → End → Type 0
IsEnd board g left Done = choice board (lines_of board g) left ≡ None
IsEnd board g left (Full line) = IsFullAt board g left line

-- these moves are the play of the board with these picks, and this is how it ends
abbrev pub Plays : BoardSeen → List Actor → List Move → End → Type 0
Plays board picks g end = (left : List Actor) × IsChosen board picks g left × IsEnd board g left end
