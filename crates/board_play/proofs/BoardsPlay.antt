-- The play of a board is the one by an order.
use Rattle.std.proofs.Common.{◌≡◌, ◌<◌, ◌↔◌, Some, List, [], ◌∷◌, length, refl, sym, ap, subst}
use Rattle.irq_base.specs.declared.entries.Actor.{Actor}
use Rattle.board_def.specs.Seen.{BoardSeen}
use Rattle.board_play.specs.Lines.{Move, part}
use Rattle.board_play.specs.Play.{End, Done, Full, IsChosen, IsEnd, Plays}
use Rattle.board_play.specs.Orders.{moves_in, IsMade, EndsSo, IsPlayed, picks_then_lowest}

-- all steps are moves
all_moves : (board : BoardSeen) (g : List Move) → moves_in (picks_then_lowest board) g ≡ g
all_moves board [] = refl
all_moves board (m ∷ g) = ap (λ x. m ∷ x) (all_moves board g)

made : (board : BoardSeen) (picks : List Actor) (g : List Move) (left : List Actor) → IsChosen board picks g left
    → IsMade (picks_then_lowest board) picks g left
made board picks [] left is = is
made board picks (m ∷ g) left is =
    (is.0, made board picks g is.0 is.1, is.2, subst (λ x. length (part m.0 x) < board.log) (sym (all_moves board g)) is.3)

chosen : (board : BoardSeen) (picks : List Actor) (g : List Move) (left : List Actor)
    → IsMade (picks_then_lowest board) picks g left → IsChosen board picks g left
chosen board picks [] left is = is
chosen board picks (m ∷ g) left is =
    (is.0, chosen board picks g is.0 is.1, is.2, subst (λ x. length (part m.0 x) < board.log) (all_moves board g) is.3)

ends : (board : BoardSeen) (g : List Move) (left : List Actor) (end : End) → IsEnd board g left end → EndsSo (picks_then_lowest board) g left end
ends board g left Done is = is
ends board g left (Full line) is = record {
  step = is.move;
  after = is.after;
  next_is = is.next;
  move = is.move;
  tells = refl;
  of_line = is.of_line;
  is_long = subst (λ x. length (part line x) ≡ board.log) (sym (all_moves board g)) is.length;
}

some_move : (m n : Move) → Some m ≡ Some n → n ≡ m
some_move m n is = cc

is_end : (board : BoardSeen) (g : List Move) (left : List Actor) (end : End) → EndsSo (picks_then_lowest board) g left end → IsEnd board g left end
is_end board g left Done is = is
is_end board g left (Full line) is = record {
  move = is.step;
  after = is.after;
  next = is.next_is;
  of_line = subst (λ (m : Move). m.0 ≡ line) (some_move is.step is.move is.tells) is.of_line;
  length = subst (λ x. length (part line x) ≡ board.log) (all_moves board g) is.is_long;
}

pub plays_in_order : (board : BoardSeen) (picks : List Actor) (g : List Move) (end : End)
    → Plays board picks g end ↔ IsPlayed (picks_then_lowest board) picks g end
plays_in_order board picks g end =
    (λ x. (x.0, made board picks g x.0 x.1, ends board g x.0 end x.2), λ x. (x.0, chosen board picks g x.0 x.1, is_end board g x.0 end x.2))
