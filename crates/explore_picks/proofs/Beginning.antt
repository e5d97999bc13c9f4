-- Put in place of a board's picks, the picks make each play begin with their moves.
use Rattle.std.proofs.Common.{◌≡◌, ◌⊎◌, inl, inr, ◌<◌, Option, Some, List, [], ◌∷◌, ◌++◌, length, reverse}
use Rattle.std.proofs.Common.{refl, sym, ap, subst, ◌∙◌, append-nil, append_assoc, arith}
use Rattle.std.proofs.lemmas.Option.{same_Some, none-some}
use Rattle.irq_base.specs.declared.entries.Actor.{Actor}
use Rattle.irq_base.specs.declared.numbers.LineNo.{LineNo}
use Rattle.board_def.specs.Seen.{BoardSeen}
use Rattle.board_play.specs.Lines.{Move, part, lines_of}
use Rattle.board_play.specs.Play.{End, Done, Full, IsChosen, IsEnd, Plays, choice}
use Rattle.explore_picks.specs.Made.{ArePicked}
use Rattle.explore_picks.proofs.PickedMoves.{begins}

-- a list without an item, or with a last one
abbrev IsLast : {X : Type 0} → List X → Type 0
IsLast {X} xs = (ys : List X) × (y : X) × (xs ≡ ys ++ y ∷ [])

last : {X : Type 0} (xs : List X) → (xs ≡ []) ⊎ IsLast xs
last [] = inl refl
last {X} (x ∷ xs) = by (last xs)
  where
    by : (xs ≡ []) ⊎ IsLast xs → (x ∷ xs ≡ []) ⊎ IsLast (x ∷ xs)
    by (inl none) = inr ([], x, ap (λ (l : List X). x ∷ l) none)
    by (inr some) = inr (x ∷ some.0, some.1, ap (λ (l : List X). x ∷ l) some.2)

module _ (board : BoardSeen) (ps : List Actor) where
  abbrev next_move : List Move → List Actor → Option (Move × List Actor)
  next_move g left = choice board (lines_of board g) left

  -- the picks that are left are one
  same_left : (g : List Move) (l m : List Actor) → IsChosen board ps g l → IsChosen board ps g m → l ≡ m
  same_left [] l m a b = a ∙ sym b
  same_left (e ∷ g) l m a b =
      let before : a.0 ≡ b.0 = same_left g a.0 b.0 a.1 b.1 in
      let same : ◌≡◌ {A = Move × List Actor} (e, l) (e, m)
      = same_Some (e, l) (e, m) (sym a.2 ∙ (ap (λ (x : List Actor). next_move g x) before ∙ b.2)) in
      ap (λ (x : Move × List Actor). x.1) same

  older : (k g : List Move) (l : List Actor) → IsChosen board ps (k ++ g) l → (before : List Actor) × IsChosen board ps g before
  older [] g l h = (l, h)
  older (x ∷ k) g l h = older k g h.0 h.1

  -- after these moves there is a next one, with room for it
  record Went (h : List Move) (l : List Actor) : Type 0 where
    pub move : Move
    pub after : List Actor
    pub is : next_move h l ≡ Some (move, after)
    pub room : length (part move.0 h) < board.log

  abbrev Begins : List Move → List Move → Type 0
  Begins g h = (k : List Move) × (h ≡ k ++ g)

  module _ (m : Move) (g : List Move) (l : List Actor) (c : IsChosen board ps (m ∷ g) l) (h : List Move) (lh : List Actor) (ch : IsChosen board ps h lh) where
    ends_here : h ≡ g → Went h lh
    ends_here same =
        let chosen : IsChosen board ps g lh = subst (λ (x : List Move). IsChosen board ps x lh) same ch in
        let left : lh ≡ c.0 = same_left g lh c.0 chosen c.1 in
        record {
          move = m;
          after = l;
          is = ap (λ (x : List Move). next_move x lh) same ∙ (ap (λ (x : List Actor). next_move g x) left ∙ c.2);
          room = subst (λ (x : List Move). length (part m.0 x) < board.log) (sym same) c.3;
        }

    goes_on : (k : List Move) (x : Move) → h ≡ (k ++ x ∷ []) ++ g → Begins (m ∷ g) h
    goes_on k x same =
        let all : h ≡ k ++ x ∷ g = same ∙ append_assoc k (x ∷ []) g in
        let part = older k (x ∷ g) lh (subst (λ (y : List Move). IsChosen board ps y lh) all ch) in
        let left : part.1.0 ≡ c.0 = same_left g part.1.0 c.0 part.1.1 c.1 in
        let one : ◌≡◌ {A = Move × List Actor} (x, part.0) (m, l)
        = same_Some (x, part.0) (m, l) (sym part.1.2 ∙ (ap (λ (y : List Actor). next_move g y) left ∙ c.2)) in
        (k, all ∙ ap (λ (y : Move × List Actor). k ++ y.0 ∷ g) one)

    longer : (k : List Move) → h ≡ k ++ g → Begins (m ∷ g) h ⊎ Went h lh
    longer k same = by (last k)
      where
        by : (k ≡ []) ⊎ IsLast k → Begins (m ∷ g) h ⊎ Went h lh
        by (inl none) = inr (ends_here (same ∙ ap (λ (x : List Move). x ++ g) none))
        by (inr some) = inl (goes_on some.0 some.1 (same ∙ ap (λ (x : List Move). x ++ g) some.2))

  compare : (g h : List Move) (l lh : List Actor) → IsChosen board ps g l → IsChosen board ps h lh → Begins g h ⊎ Went h lh
  compare [] h l lh c ch = inl (h, sym (append-nil h))
  compare (m ∷ g) h l lh c ch = by (compare g h c.0 lh c.1 ch)
    where
      by : Begins g h ⊎ Went h lh → Begins (m ∷ g) h ⊎ Went h lh
      by (inl b) = longer m g l c h lh ch b.0 b.1
      by (inr w) = inr w

  no_end : (h : List Move) (l : List Actor) (end : End) → Went h l → IsEnd board h l end → ⊥
  no_end h l Done w is = none-some (w.move, w.after) (sym is ∙ w.is)
  no_end h l (Full line) w is =
      let same : ◌≡◌ {A = Move × List Actor} (w.move, w.after) (is.move, is.after) = same_Some (w.move, w.after) (is.move, is.after) (sym w.is ∙ is.next) in
      let its : w.move.0 ≡ line = ap (λ (x : Move × List Actor). x.0.0) same ∙ is.of_line in
      let room : length (part line h) < board.log = subst (λ (x : LineNo). length (part x h) < board.log) its w.room in
      let full : length (part line h) ≡ board.log = is.length in
      omega (arith, room, full)

  one_begins : (g h : List Move) (l : List Actor) (end : End) → IsChosen board ps g l → Plays board ps h end → Begins g h
  one_begins g h l end c p = by (compare g h l p.0 c p.1)
    where
      by : Begins g h ⊎ Went h p.0 → Begins g h
      by (inl b) = b
      by (inr w) = absurd (no_end h p.0 end w p.2)

pub begins_each : (board : BoardSeen) (picks : List Actor) (g : List Move) (more : List Actor) (h : List Move) (end : End) → ArePicked board picks g
    → Plays board (reverse picks ++ more) h end → (k : List Move) × (h ≡ k ++ g)
begins_each board picks g more h end picked p =
    one_begins board (reverse picks ++ more) g h more end (begins board picks g more picked) p
