-- Who hangs on a board, and what is left beside them where nobody can move (ours).
use Rattle.std.specs.Prelude.{◌≡◌, ◌<◌, ℕ, true, IsSome, IfSome, None, Some, List, slice_get}
use Rattle.irq_base.specs.declared.entries.Actor.{Actor}
use Rattle.irq_base.specs.declared.entries.Actor.TheVariants as actors
use Rattle.irq_base.specs.declared.entries.Entry.{Entry}
use Rattle.irq_base.specs.declared.numbers.DriverNo.{DriverNo}
use Rattle.irq_base.specs.declared.numbers.LineNo.{LineNo}
use Rattle.irq_model.specs.Due.{due_call}
use Rattle.irq_model.specs.Kinds.{is_take}
use Rattle.irq_model.specs.Signal.{target}
use Rattle.irq_model.specs.Waits.{IsHungPast, IsCaughtPast, IsLowestHungPast}
use Rattle.play_laws.specs.Actors.{IsOneOf}
use Rattle.board_def.specs.Seen.{BoardSeen}
use Rattle.board_play.specs.Lines.{BoardLine}
use Rattle.board_play.specs.Order.{actors_of, due_move}

-- none of the board's actors can move
abbrev pub NobodyMoves : BoardSeen → List BoardLine → Type 0
NobodyMoves board lines =
    (a : Actor) → IsOneOf a (actors_of board) → due_move board lines a ≡ None

-- no actor is hung on any of the lines
abbrev pub NobodyHangs : List BoardLine → Type 0
NobodyHangs lines = (i : ℕ) (x : BoardLine) (a : Actor) → slice_get lines i ≡ Some x
    → IsHungPast x.def x.past a → ⊥

-- of the lines this is the first with a hung actor, and of its actors that are hung the lowest
pub record IsFirstHung (lines : List BoardLine) (line : LineNo) (actor : Actor) : Type 0 where
  pub place : ℕ
  pub of : BoardLine
  pub at : slice_get lines place ≡ Some of
  pub number : of.def.line ≡ line
  pub lowest : IsLowestHungPast of.def of.past (Some actor)
  pub before : (i : ℕ) (x : BoardLine) (a : Actor) → i < place → slice_get lines i ≡ Some x
      → IsHungPast x.def x.past a → ⊥

-- the actor is hung or held up on one of the lines other than that
pub record IsCaughtElsewhere (lines : List BoardLine) (line : LineNo) (a : Actor) : Type 0 where
  pub place : ℕ
  pub of : BoardLine
  pub at : slice_get lines place ≡ Some of
  pub other : of.def.line ≡ line → ⊥
  pub caught : IsCaughtPast of.def of.past a

module _ (lines : List BoardLine) (x : BoardLine) where
  -- what may still be due on the line: a take of a processor that spins on another, and what a
  -- driver would do that hangs, or is held up, on another
  abbrev pub MayBeDue : Actor → Entry → Type 0
  MayBeDue (actors.Thread d) e = ⊥
  MayBeDue (actors.Cpu c) e =
      IsCaughtElsewhere lines x.def.line (actors.Cpu c) × (is_take e ≡ true)
  MayBeDue (actors.Driver r) e = IsCaughtElsewhere lines x.def.line (actors.Driver r)

  -- nobody who has something to do on the line is hung or held up: nobody on the line itself, and
  -- elsewhere neither its target nor a driver with a call left here
  pub record IsUntouched : Type 0 where
    pub here : (a : Actor) → IsCaughtPast x.def x.past a → ⊥
    pub takes : IfSome (target x.def x.past)
        (λ c. IsCaughtElsewhere lines x.def.line (actors.Cpu c) → ⊥)
    pub calls : (r : DriverNo) → IsSome (due_call x.def r x.past)
        → IsCaughtElsewhere lines x.def.line (actors.Driver r) → ⊥
