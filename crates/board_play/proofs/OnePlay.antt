-- At most one list of moves and one end are a board's play with given picks.
use Rattle.std.proofs.Common.{◌≡◌, ℕ, suc, ◌<◌, Option, Some, None, List, [], ◌∷◌, length, refl, sym, ap, ◌∙◌, subst, inl, inr, ◌⊎◌, arith}
use Rattle.irq_base.specs.declared.entries.Actor.{Actor}
use Rattle.irq_base.specs.declared.numbers.LineNo.{LineNo}
use Rattle.board_def.specs.Seen.{BoardSeen}
use Rattle.board_play.specs.Lines.{Move, part, lines_of}
use Rattle.board_play.specs.Play.{End, Done, Full, choice, IsChosen, IsFullAt, IsEnd, Plays}

-- the next move after these
abbrev next_move : BoardSeen → List Move → List Actor → Option (Move × List Actor)
next_move board g left = choice board (lines_of board g) left

abbrev move_of : Option (Move × List Actor) → Option Move
move_of None = None
move_of (Some choice) = Some choice.0

abbrev picks_of : Option (Move × List Actor) → List Actor
picks_of None = []
picks_of (Some choice) = choice.1

same_some : (e f : Move) → Some e ≡ Some f → e ≡ f
same_some e f h = cc

same_move : (a b : Option (Move × List Actor)) (e f : Move) (l m : List Actor) → a ≡ b → a ≡ Some (e, l) → b ≡ Some (f, m) → (e ≡ f) × (l ≡ m)
same_move a b e f l m ab is_a is_b =
    (same_some e f (sym (ap move_of is_a) ∙ (ap move_of ab ∙ ap move_of is_b)), sym (ap picks_of is_a) ∙ (ap picks_of ab ∙ ap picks_of is_b))

same_left : (board : BoardSeen) (picks : List Actor) (p : List Move) (l m : List Actor) → IsChosen board picks p l → IsChosen board picks p m → l ≡ m
same_left board picks [] l m a b = a ∙ sym b
same_left board picks (e ∷ p) l m a b =
    let before : a.0 ≡ b.0 = same_left board picks p a.0 b.0 a.1 b.1 in
    (same_move (next_move board p a.0) (next_move board p b.0) e e l m (ap (next_move board p) before) a.2 b.2).1

same_past : (board : BoardSeen) (picks : List Actor) (p q : List Move) (l m : List Actor) → length p ≡ length q
    → IsChosen board picks p l → IsChosen board picks q m → p ≡ q
same_past board picks [] [] l m n a b = refl
same_past board picks [] (f ∷ q) l m n a b = absurd (omega (arith, n))
same_past board picks (e ∷ p) [] l m n a b = absurd (omega (arith, n))
same_past board picks (e ∷ p) (f ∷ q) l m n a b =
    let older : p ≡ q = same_past board picks p q a.0 b.0 (omega (arith, n)) a.1 b.1 in
    let chosen : IsChosen board picks p b.0 = subst (λ (x : List Move). IsChosen board picks x b.0) (sym older) b.1 in
    let before : a.0 ≡ b.0 = same_left board picks p a.0 b.0 a.1 chosen in
    let moves : next_move board p a.0 ≡ next_move board q b.0 = ap (λ (x : List Actor). next_move board p x) before
    ∙ ap (λ (x : List Move). next_move board x b.0) older in
    let newest : e ≡ f = (same_move (next_move board p a.0) (next_move board q b.0) e f l m moves a.2 b.2).0 in
    ap (λ x. x ∷ p) newest ∙ ap (λ x. f ∷ x) older

-- what a longer play did at the point at which a shorter one ended
record Went (board : BoardSeen) (p : List Move) (l : List Actor) : Type 0 where
  pub move : Move
  pub after : List Actor
  pub is : next_move board p l ≡ Some (move, after)
  pub room : length (part move.0 p) < board.log

at_length : (board : BoardSeen) (picks : List Actor) (p q : List Move) (l before m : List Actor) (f : Move)
    → IsChosen board picks p l → IsChosen board picks q before
    → next_move board q before ≡ Some (f, m) → length (part f.0 q) < board.log → length p ≡ length q → Went board p l
at_length board picks p q l before m f a b is room n =
    let older : p ≡ q = same_past board picks p q l before n a b in
    let chosen : IsChosen board picks p before = subst (λ (x : List Move). IsChosen board picks x before) (sym older) b in
    let lefts : l ≡ before = same_left board picks p l before a chosen in
    record {
      move = f;
      after = m;
      is = ap (λ (x : List Actor). next_move board p x) lefts ∙ (ap (λ (x : List Move). next_move board x before) older ∙ is);
      room = subst (λ (x : List Move). length (part f.0 x) < board.log) (sym older) room;
    }

cases : (m n : ℕ) → m < suc n → (m ≡ n) ⊎ (m < n)
cases m n h = grind arith

went_on : (board : BoardSeen) (picks : List Actor) (p q : List Move) (l m : List Actor) → length p < length q
    → IsChosen board picks p l → IsChosen board picks q m → Went board p l
went_on board picks p [] l m n a b = absurd (omega (arith, n))
went_on board picks p (f ∷ q) l m n a b =
    elim (cases (length p) (length q) n) [
      | inl same ↦ at_length board picks p q l b.0 m f a b.1 b.2 b.3 same
      | inr less ↦ went_on board picks p q l b.0 less a b.1
    ]

not_both : (o : Option (Move × List Actor)) (choice : Move × List Actor) → o ≡ Some choice → o ≡ None → ⊥
not_both o choice is none = cc

-- the line whose turn it is has no room, and it has
full_and_room : (board : BoardSeen) (p : List Move) (l : List Actor) (line : LineNo) → Went board p l → IsFullAt board p l line → ⊥
full_and_room board p l line w full =
    let same : w.move ≡ full.move = (same_move (next_move board p l) (next_move board p l) w.move full.move w.after full.after refl w.is full.next).0 in
    let its : w.move.0 ≡ line = ap (λ (m : Move). m.0) same ∙ full.of_line in
    let room : length (part line p) < board.log = subst (λ (x : LineNo). length (part x p) < board.log) its w.room in
    let is : length (part line p) ≡ board.log = full.length in
    omega (arith, room, is)

no_end : (board : BoardSeen) (p : List Move) (l : List Actor) (end : End) → Went board p l → IsEnd board p l end → ⊥
no_end board p l Done w is = not_both (next_move board p l) (w.move, w.after) w.is is
no_end board p l (Full line) w is = full_and_room board p l line w is

same_line_full : (board : BoardSeen) (p : List Move) (l : List Actor) (a b : LineNo) → IsFullAt board p l a → IsFullAt board p l b → a ≡ b
same_line_full board p l a b x y =
    sym x.of_line ∙ (ap (λ (m : Move). m.0) (same_move (next_move board p l) (next_move board p l) x.move y.move x.after
    y.after refl x.next y.next).0 ∙ y.of_line)

same_end : (board : BoardSeen) (p : List Move) (l : List Actor) (a b : End) → IsEnd board p l a → IsEnd board p l b → a ≡ b
same_end board p l Done Done x y = refl
same_end board p l (Full a) (Full b) x y = ap Full (same_line_full board p l a b x y)
same_end board p l Done (Full b) x y = absurd (not_both (next_move board p l) (y.move, y.after) y.next x)
same_end board p l (Full a) Done x y = absurd (not_both (next_move board p l) (x.move, x.after) x.next y)

three : (m n : ℕ) → (m < n) ⊎ ((n < m) ⊎ (m ≡ n))
three m n = grind arith

pub play_is_one : (board : BoardSeen) (picks : List Actor) (p q : List Move) (a b : End) → Plays board picks p a → Plays board picks q b → (p ≡ q) × (a ≡ b)
play_is_one board picks p q a b x y =
    elim (three (length p) (length q)) [
      | inl less ↦ absurd (no_end board p x.0 a (went_on board picks p q x.0 y.0 less x.1 y.1) x.2)
      | inr other ↦ elim other [
        | inl more ↦ absurd (no_end board q y.0 b (went_on board picks q p y.0 x.0 more y.1 x.1) y.2)
        | inr same ↦
            let is : p ≡ q = same_past board picks p q x.0 y.0 same x.1 y.1 in
            let chosen : IsChosen board picks p y.0 = subst (λ (z : List Move). IsChosen board picks z y.0) (sym is) y.1 in
            let lefts : x.0 ≡ y.0 = same_left board picks p x.0 y.0 x.1 chosen in
            let ends : IsEnd board p x.0 b = subst (λ (z : List Actor). IsEnd board p z b) (sym lefts)
            (subst (λ (z : List Move). IsEnd board z y.0 b) (sym is) y.2) in
            (is, same_end board p x.0 a b x.2 ends)
      ]
    ]
