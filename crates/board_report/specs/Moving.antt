-- Whether anything moves on a board's lines as they stand.
use Rattle.std.specs.Prelude.{◌≡◌, ℕ, IsSome, None, List}
use Rattle.irq_base.specs.declared.entries.Actor.{Actor}
use Rattle.irq_base.specs.declared.numbers.LineNo.{LineNo}
use Rattle.play_laws.specs.Actors.{IsOneOf}
use Rattle.board_core.specs.Turns.{HasLength}
use Rattle.board_def.specs.Seen.{BoardSeen}
use Rattle.board_play.specs.Lines.{BoardLine, find_line}
use Rattle.board_play.specs.Order.{actors_of, due_move, due_on}

-- none of the board's actors can move
abbrev pub AreAtRest : BoardSeen → List BoardLine → Type 0
AreAtRest b lines = (a : Actor) → IsOneOf a (actors_of b) → due_move b lines a ≡ None

-- an entry of this actor is due on the line, and the line's history has the greatest length, `len`
pub record HasNoRoom (b : BoardSeen) (lines : List BoardLine) (line : LineNo) (len : ℕ)
    : Type 0 where
  pub actor : Actor
  pub due : IsSome (due_on (find_line lines line) actor)
  pub length : HasLength (find_line lines line) len
  pub limit : len ≡ b.log
