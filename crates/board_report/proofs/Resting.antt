-- Whether some actor can move, by the lowest move.
use Rattle.std.proofs.Common.{◌≡◌, Option, Some, None, List, [], ◌∷◌, refl, ap, ◌∙◌, inl, inr}
use Rattle.irq_base.specs.declared.entries.Actor.{Actor}
use Rattle.play_laws.specs.Actors.{IsOneOf}
use Rattle.board_def.specs.Seen.{BoardSeen}
use Rattle.board_play.specs.Lines.{BoardLine, Move}
use Rattle.board_play.specs.Order.{actors_of, due_move}
use Rattle.board_play.specs.Play.{or_move, first_move}
use Rattle.board_report.specs.Moving.{AreAtRest}

none_first : (a b : Option Move) → or_move a b ≡ None → (a ≡ None) × (b ≡ None)
none_first None b h = (refl, h)
none_first (Some m) b h = cc

none_moves : (board : BoardSeen) (lines : List BoardLine) (all : List Actor) → first_move board lines all ≡ None
    → (a : Actor) → IsOneOf a all → due_move board lines a ≡ None
none_moves board lines [] none a at = absurd at
none_moves board lines (x ∷ xs) none a at =
    let both = none_first (due_move board lines x) (first_move board lines xs) none in
    elim at [ inl here ↦ ap (λ (b : Actor). due_move board lines b) here ∙ both.0 | inr there ↦ none_moves board lines xs both.1 a there ]

-- if there is no first move, none of the actors can move
pub at_rest : (board : BoardSeen) (lines : List BoardLine) → first_move board lines (actors_of board) ≡ None → AreAtRest board lines
at_rest board lines none = none_moves board lines (actors_of board) none
