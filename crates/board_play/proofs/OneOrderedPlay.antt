-- At most one list of steps and one end are the play by an order.
use Rattle.std.proofs.Common.{◌≡◌, ℕ, suc, ◌<◌, IfSome, Option, Some, None, List, [], ◌∷◌, length, refl, sym, ap, ◌∙◌, subst, inl, inr, ◌⊎◌, arith}
use Rattle.irq_base.specs.declared.numbers.LineNo.{LineNo}
use Rattle.board_play.specs.Lines.{Move, part}
use Rattle.board_play.specs.Play.{End, Done, Full}
use Rattle.board_play.specs.Orders.{Order, moves_in, HasRoom, IsMade, IsFullAt, EndsSo, IsPlayed}

cases : (m n : ℕ) → m < suc n → (m ≡ n) ⊎ (m < n)
cases m n h = grind arith

three : (m n : ℕ) → (m < n) ⊎ ((n < m) ⊎ (m ≡ n))
three m n = grind arith

same_some : {A : Type 0} (x y : A) → Some x ≡ Some y → x ≡ y
same_some x y h = cc

module _ {S E : Type 0} where
  same_next : (a b : Option (E × S)) (x y : E × S) → a ≡ b → a ≡ Some x → b ≡ Some y → x ≡ y
  same_next a b x y ab is_a is_b = same_some x y (sym is_a ∙ (ab ∙ is_b))

  same_step : (a b : Option (E × S)) (e f : E) (s t : S) → a ≡ b → a ≡ Some (e, s) → b ≡ Some (f, t) → e ≡ f
  same_step a b e f s t ab is_a is_b = ap (λ (p : E × S). p.0) (same_next a b (e, s) (f, t) ab is_a is_b)

  same_place : (a b : Option (E × S)) (e f : E) (s t : S) → a ≡ b → a ≡ Some (e, s) → b ≡ Some (f, t) → s ≡ t
  same_place a b e f s t ab is_a is_b = ap (λ (p : E × S). p.1) (same_next a b (e, s) (f, t) ab is_a is_b)

  not_both : (o : Option (E × S)) (step : E × S) → o ≡ Some step → o ≡ None → ⊥
  not_both o step is none = cc

  same_at : (o : Order S E) (first : S) (g : List E) (s t : S) → IsMade o first g s → IsMade o first g t → s ≡ t
  same_at o first [] s t a b = a ∙ sym b
  same_at o first (e ∷ g) s t a b =
      let before : a.0 ≡ b.0 = same_at o first g a.0 b.0 a.1 b.1 in
      same_place (o.next g a.0) (o.next g b.0) e e s t (ap (o.next g) before) a.2 b.2

  same_past : (o : Order S E) (first : S) (g h : List E) (s t : S) → length g ≡ length h → IsMade o first g s → IsMade o first h t → g ≡ h
  same_past o first [] [] s t n a b = refl
  same_past o first [] (f ∷ h) s t n a b = absurd (omega (arith, n))
  same_past o first (e ∷ g) [] s t n a b = absurd (omega (arith, n))
  same_past o first (e ∷ g) (f ∷ h) s t n a b =
      let older : g ≡ h = same_past o first g h a.0 b.0 (omega (arith, n)) a.1 b.1 in
      let made : IsMade o first g b.0 = subst (λ (x : List E). IsMade o first x b.0) (sym older) b.1 in
      let before : a.0 ≡ b.0 = same_at o first g a.0 b.0 a.1 made in
      let nexts : o.next g a.0 ≡ o.next h b.0 = ap (o.next g) before ∙ ap (λ (x : List E). o.next x b.0) older in
      let newest : e ≡ f = same_step (o.next g a.0) (o.next h b.0) e f s t nexts a.2 b.2 in
      ap (λ x. x ∷ g) newest ∙ ap (λ x. f ∷ x) older

  -- what a longer play did at the point at which a shorter one ended
  record Went (o : Order S E) (g : List E) (s : S) : Type 0 where
    pub step : E
    pub after : S
    pub is : o.next g s ≡ Some (step, after)
    pub room : HasRoom o g step

  at_length : (o : Order S E) (first : S) (g h : List E) (s before t : S) (f : E) → IsMade o first g s → IsMade o first h before
      → o.next h before ≡ Some (f, t) → HasRoom o h f → length g ≡ length h → Went o g s
  at_length o first g h s before t f a b is room n =
      let older : g ≡ h = same_past o first g h s before n a b in
      let made : IsMade o first g before = subst (λ (x : List E). IsMade o first x before) (sym older) b in
      let places : s ≡ before = same_at o first g s before a made in
      record {
        step = f;
        after = t;
        is = ap (o.next g) places ∙ (ap (λ (x : List E). o.next x before) older ∙ is);
        room = subst (λ (x : List E). HasRoom o x f) (sym older) room;
      }

  went_on : (o : Order S E) (first : S) (g h : List E) (s t : S) → length g < length h → IsMade o first g s → IsMade o first h t → Went o g s
  went_on o first g [] s t n a b = absurd (omega (arith, n))
  went_on o first g (f ∷ h) s t n a b =
      elim (cases (length g) (length h) n) [
        | inl same ↦ at_length o first g h s b.0 t f a b.1 b.2 b.3 same
        | inr less ↦ went_on o first g h s b.0 less a b.1
      ]

  -- the line whose turn it is has no room, and it has
  room_of : (o : Order S E) (g : List E) (told : Option Move) (m : Move) → told ≡ Some m
      → IfSome told (λ x. length (part x.0 (moves_in o g)) < o.log) → length (part m.0 (moves_in o g)) < o.log
  room_of o g told m is room = subst (λ (t : Option Move). IfSome t (λ x. length (part x.0 (moves_in o g)) < o.log)) is room

  full_and_room : (o : Order S E) (g : List E) (s : S) (line : LineNo) → Went o g s → IsFullAt o g s line → ⊥
  full_and_room o g s line w full =
      let same : w.step ≡ full.step = same_step (o.next g s) (o.next g s) w.step full.step w.after full.after refl w.is full.next_is in
      let tells : o.told w.step ≡ Some full.move = ap o.told same ∙ full.tells in
      let its : length (part full.move.0 (moves_in o g)) < o.log = room_of o g (o.told w.step) full.move tells w.room in
      let room : length (part line (moves_in o g)) < o.log = subst (λ (x : LineNo). length (part x (moves_in o g)) < o.log) full.of_line its in
      let is : length (part line (moves_in o g)) ≡ o.log = full.is_long in
      omega (arith, room, is)

  no_end : (o : Order S E) (g : List E) (s : S) (end : End) → Went o g s → EndsSo o g s end → ⊥
  no_end o g s Done w is = not_both (o.next g s) (w.step, w.after) w.is is
  no_end o g s (Full line) w is = full_and_room o g s line w is

  same_line_full : (o : Order S E) (g : List E) (s : S) (a b : LineNo) → IsFullAt o g s a → IsFullAt o g s b → a ≡ b
  same_line_full o g s a b x y =
      let steps : x.step ≡ y.step = same_step (o.next g s) (o.next g s) x.step y.step x.after y.after refl x.next_is y.next_is in
      let moves : x.move ≡ y.move = same_some x.move y.move (sym x.tells ∙ (ap o.told steps ∙ y.tells)) in
      sym x.of_line ∙ (ap (λ (m : Move). m.0) moves ∙ y.of_line)

  same_end : (o : Order S E) (g : List E) (s : S) (a b : End) → EndsSo o g s a → EndsSo o g s b → a ≡ b
  same_end o g s Done Done x y = refl
  same_end o g s (Full a) (Full b) x y = ap Full (same_line_full o g s a b x y)
  same_end o g s Done (Full b) x y = absurd (not_both (o.next g s) (y.step, y.after) y.next_is x)
  same_end o g s (Full a) Done x y = absurd (not_both (o.next g s) (x.step, x.after) x.next_is y)

  pub one_play : (o : Order S E) (first : S) (g h : List E) (a b : End) → IsPlayed o first g a → IsPlayed o first h b → (g ≡ h) × (a ≡ b)
  one_play o first g h a b x y =
      elim (three (length g) (length h)) [
        | inl less ↦ absurd (no_end o g x.0 a (went_on o first g h x.0 y.0 less x.1 y.1) x.2)
        | inr other ↦ elim other [
          | inl more ↦ absurd (no_end o h y.0 b (went_on o first h g y.0 x.0 more y.1 x.1) y.2)
          | inr same ↦
              let is : g ≡ h = same_past o first g h x.0 y.0 same x.1 y.1 in
              let made : IsMade o first g y.0 = subst (λ (z : List E). IsMade o first z y.0) (sym is) y.1 in
              let places : x.0 ≡ y.0 = same_at o first g x.0 y.0 x.1 made in
              let ends : EndsSo o g x.0 b = subst (λ (z : S). EndsSo o g z b) (sym places) (subst (λ (z : List E). EndsSo o z y.0 b) (sym is) y.2) in
              (is, same_end o g x.0 a b x.2 ends)
        ]
      ]
