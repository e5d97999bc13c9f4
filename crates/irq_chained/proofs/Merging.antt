-- The log grows at its end, by a mark or by a move; a walk tells it from its front.
use Rattle.std.proofs.Common.{◌≡◌, ℕ, zero, suc, ◌+◌, ◌-◌, ◌<◌, ◌≤◌, Bool, true, false, cond, nat_le, Option, Some}
use Rattle.std.proofs.Common.{None, option_map, List, [], ◌∷◌, ◌++◌, map, length, take, drop, slice_get, refl, sym, ap}
use Rattle.std.proofs.Common.{◌∙◌, subst, arith}
use Rattle.std.proofs.lemmas.Bool.{leb-true, leb-false}
use Rattle.std.proofs.lemmas.Option.{get_or_from_slice_get, slice_get_within}
use Rattle.std.proofs.lemmas.List.{append_assoc, drop_all, length-drop, map-append, take-append-le, drop-append-le, take_all}
use Rattle.std.proofs.lemmas.List.Elements.{All-append}
use Rattle.board_play.specs.Lines.{Move}
use Rattle.board_core.proofs.Searches.{dropped}
use Rattle.irq_chained.specs.Walk.{AreWithin, IsWalking, mark_of, mark_reached, merged, step_of}
use Rattle.irq_chained.specs.declared.chain.ChainEntry.{ChainEntry}
use Rattle.irq_chained.specs.declared.marks.Mark.{Mark}
use Rattle.irq_chained.specs.declared.marks.Marked.{Marked}

head_within : (n : ℕ) (m : Mark) (ms : List Mark) → AreWithin n (m ∷ ms) → m.before ≤ n
head_within n m ms w = w 0 m (omega arith)

tail_within : (n : ℕ) (m : Mark) (ms : List Mark) → AreWithin n (m ∷ ms) → AreWithin n ms
tail_within n m ms w = λ k d less. w (suc k) d (omega (arith, less))

-- what stands behind a first part
behind : (n told len : ℕ) → n ≤ told + len → (told + (n - told)) + (len - (n - told)) ≡ told + len
behind n told len h = omega (arith, h)

rest_within : (m : Mark) (ms : List Mark) (moves : List Move) (told : ℕ) → AreWithin (told + length moves) (m ∷ ms)
    → AreWithin (told + (m.before - told) + length (drop (m.before - told) moves)) ms
rest_within m ms moves told w =
    let n = m.before - told in
    let l : length (drop n moves) ≡ length moves - n = length-drop n moves in
    let e : told + length moves ≡ told + n + length (drop n moves)
    = sym (ap (λ (k : ℕ). told + n + k) l ∙ behind m.before told (length moves)
    (head_within (told + length moves) m ms w)) in
    subst (λ (k : ℕ). AreWithin k ms) e (tail_within (told + length moves) m ms w)

-- a mark at the end
pub with_mark : (ms : List Mark) (moves : List Move) (told : ℕ) (m : Mark) → AreWithin (told + length moves) ms
    → m.before ≡ told + length moves → merged (ms ++ m ∷ []) moves told ≡ merged ms moves told ++ mark_of m.what ∷ []
with_mark [] moves told m w is =
    let n : length moves ≡ m.before - told = omega (arith, is) in
    let kept : take (m.before - told) moves ≡ moves = take_all (m.before - told) moves (omega (arith, is)) in
    let gone : drop (m.before - told) moves ≡ [] = drop_all (m.before - told) moves (omega (arith, is)) in
    rw (kept, gone) refl
with_mark (x ∷ ms) moves told m w is =
    let n = x.before - told in
    let l : length (drop n moves) ≡ length moves - n = length-drop n moves in
    let e : told + length moves ≡ told + n + length (drop n moves)
    = sym (ap (λ (k : ℕ). told + n + k) l ∙ behind x.before told (length moves)
    (head_within (told + length moves) x ms w)) in
    let deeper = with_mark ms (drop n moves) (told + n) m (rest_within x ms moves told w) (is ∙ e) in
    ap (λ (g : List ChainEntry). map step_of (take n moves) ++ mark_of x.what ∷ g) deeper
    ∙ sym (append_assoc (map step_of (take n moves)) (mark_of x.what ∷ merged ms (drop n moves) (told + n)) (mark_of m.what ∷ []))

-- a move at the end
pub with_move : (ms : List Mark) (moves : List Move) (told : ℕ) (x : Move) → AreWithin (told + length moves) ms
    → merged ms (moves ++ x ∷ []) told ≡ merged ms moves told ++ step_of x ∷ []
with_move [] moves told x w = map-append step_of moves (x ∷ [])
with_move (m ∷ ms) moves told x w =
    let n = m.before - told in
    let le : n ≤ length moves = omega (arith, head_within (told + length moves) m ms w) in
    let first : take n (moves ++ x ∷ []) ≡ take n moves = take-append-le n moves (x ∷ []) le in
    let rest : drop n (moves ++ x ∷ []) ≡ drop n moves ++ x ∷ [] = drop-append-le n moves (x ∷ []) le in
    let deeper = with_move ms (drop n moves) (told + n) x (rest_within m ms moves told w) in
    ap (λ (t : List Move). map step_of t ++ mark_of m.what ∷ merged ms (drop n (moves ++ x ∷ [])) (told + n)) first
    ∙ (ap (λ (d : List Move). map step_of (take n moves) ++ mark_of m.what ∷ merged ms d (told + n)) rest
    ∙ (ap (λ (g : List ChainEntry). map step_of (take n moves) ++ mark_of m.what ∷ g) deeper
    ∙ sym (append_assoc (map step_of (take n moves)) (mark_of m.what ∷ merged ms (drop n moves) (told + n)) (step_of x ∷ []))))

-- ---- within

pub within_more : (ms : List Mark) (n k : ℕ) → n ≤ k → AreWithin n ms → AreWithin k ms
within_more ms n k le w = λ i d less. omega (arith, le, w i d less)

pub within_mark : (ms : List Mark) (n : ℕ) (m : Mark) → m.before ≤ n → AreWithin n ms → AreWithin n (ms ++ m ∷ [])
within_mark ms n m le w = All-append (λ (x : Mark). x.before ≤ n) ms (m ∷ []) w one
  where
    one : AreWithin n (m ∷ [])
    one zero d less = le
    one (suc k) d less = absurd (omega (arith, less))

-- ---- a walk

slice_get_none : {A : Type 0} (xs : List A) (i : ℕ) → slice_get xs i ≡ None → length xs ≤ i
slice_get_none [] i none = omega arith
slice_get_none (x ∷ xs) zero none = cc
slice_get_none (x ∷ xs) (suc i) none = let l = slice_get_none xs i none in omega (arith, l)

-- a mark that is reached is told first
pub tells_mark : (all : List Mark) (moves : List Move) (at told : ℕ) (what : Marked)
    → mark_reached (slice_get all at) told ≡ Some what
    → merged (drop at all) moves told ≡ mark_of what ∷ merged (drop (at + 1) all) moves told
tells_mark all moves at told what is = by_mark (slice_get all at) refl is
  where
    by_test : (m : Mark) (b : Bool) → slice_get all at ≡ Some m → nat_le m.before told ≡ b
        → cond b (Some m.what) None ≡ Some what → merged (drop at all) moves told
        ≡ mark_of what ∷ merged (drop (at + 1) all) moves told
    by_test m true there le same =
        let n : m.before - told ≡ 0 = omega (arith, leb-true m.before told le) in
        let w : m.what ≡ what = cc in
        let d : drop at all ≡ m ∷ drop (suc at) all = dropped all at m there in
        let s : suc at ≡ at + 1 = omega arith in
        ap (λ (ms : List Mark). merged ms moves told) d
        ∙ (ap (λ (k : ℕ). map step_of (take k moves) ++ mark_of m.what ∷ merged (drop (suc at) all) (drop k moves) (told + k)) n
        ∙ (ap (λ (x : Marked). mark_of x ∷ merged (drop (suc at) all) moves (told + 0)) w
        ∙ (ap (λ (k : ℕ). mark_of what ∷ merged (drop k all) moves (told + 0)) s
        ∙ ap (λ (k : ℕ). mark_of what ∷ merged (drop (at + 1) all) moves k)
        (let z : told + 0 ≡ told = omega arith in z))))
    by_test m false there le same = cc

    by_mark : (o : Option Mark) → slice_get all at ≡ o → mark_reached o told ≡ Some what
        → merged (drop at all) moves told ≡ mark_of what ∷ merged (drop (at + 1) all) moves told
    by_mark None there same = cc
    by_mark (Some m) there same = by_test m (nat_le m.before told) there refl same

-- ---- the next step of a walk

module _ {all : List Mark} {moves : List Move} {at total left : ℕ} (w : IsWalking all moves at total left)
    {view : List ChainEntry} (v : merged (drop at all) moves (total - left) ≡ view) where
  pub mark_first : (what : Marked) → mark_reached (slice_get all at) (total - left) ≡ Some what → Some (mark_of what) ≡ slice_get view 0
  mark_first what is = ap (λ (g : List ChainEntry). slice_get g 0) (sym (tells_mark all moves at (total - left) what is) ∙ v)

  pub mark_rest : (what : Marked) → mark_reached (slice_get all at) (total - left) ≡ Some what → merged (drop (at + 1) all) moves (total - left) ≡ drop 1 view
  mark_rest what is = ap (λ (g : List ChainEntry). drop 1 g) (sym (tells_mark all moves at (total - left) what is) ∙ v)

  -- no mark is reached: with no move left all is told
  no_mark : (is : mark_reached (slice_get all at) (total - left) ≡ None) → (m : Mark) → slice_get all at ≡ Some m → total - left < m.before
  no_mark is m there = by_test (nat_le m.before (total - left)) refl (ap (λ (o : Option Mark). mark_reached o (total - left)) (sym there) ∙ is)
    where
      by_test : (b : Bool) → nat_le m.before (total - left) ≡ b → cond b (Some m.what) None ≡ None → total - left < m.before
      by_test true le same = cc
      by_test false more same = leb-false m.before (total - left) more

  at_end : at ≡ length all → drop at all ≡ []
  at_end is = drop_all at all (omega (arith, is))

  pub move_told : mark_reached (slice_get all at) (total - left) ≡ None → (x : Move) (xs : List Move) → moves ≡ x ∷ xs
      → view ≡ step_of x ∷ merged (drop at all) xs (total - (left - 1))
  move_told is x xs has = sym v ∙ by_mark (slice_get all at) refl
    where
      len : length moves ≡ suc (length xs)
      len = ap (λ (l : List Move). length l) has

      next_told : total - (left - 1) ≡ (total - left) + 1
      next_told = omega (arith, w.left_is, w.most, len)

      by_mark : (o : Option Mark) → slice_get all at ≡ o → merged (drop at all) moves (total - left) ≡ step_of x ∷ merged (drop at all) xs (total - (left - 1))
      by_mark None there =
          let past : length all ≤ at = slice_get_none all at there in
          let none : drop at all ≡ [] = drop_all at all past in
          ap (λ (ms : List Mark). merged ms moves (total - left)) none
          ∙ (ap (λ (l : List Move). map step_of l) has ∙ sym (ap (λ (ms : List Mark). step_of x ∷ merged ms xs (total - (left - 1))) none))
      by_mark (Some m) there =
          let told = total - left in
          let more : told < m.before = no_mark is m there in
          let d : drop at all ≡ m ∷ drop (suc at) all = dropped all at m there in
          let n : m.before - told ≡ suc (m.before - (told + 1)) = omega (arith, more) in
          let k = m.before - (told + 1) in
          let sum : told + suc k ≡ (told + 1) + k = omega arith in
          ap (λ (ms : List Mark). merged ms moves told) d
          ∙ (ap (λ (l : List Move). merged (m ∷ drop (suc at) all) l told) has
          ∙ (ap (λ (j : ℕ). map step_of (take j (x ∷ xs)) ++ mark_of m.what ∷ merged (drop (suc at) all) (drop j (x ∷ xs)) (told + j)) n
          ∙ (ap (λ (j : ℕ). step_of x ∷ (map step_of (take k xs) ++ mark_of m.what ∷ merged (drop (suc at) all) (drop k xs) j)) sum
          ∙ sym (ap (λ (ms : List Mark). step_of x ∷ merged ms xs (total - (left - 1))) d
          ∙ ap (λ (j : ℕ). step_of x ∷ merged (m ∷ drop (suc at) all) xs j) next_told))))

  pub none_told : mark_reached (slice_get all at) (total - left) ≡ None → moves ≡ [] → view ≡ []
  none_told is none = sym v ∙ by_mark (slice_get all at) refl
    where
      by_mark : (o : Option Mark) → slice_get all at ≡ o → merged (drop at all) moves (total - left) ≡ []
      by_mark None there =
          ap (λ (ms : List Mark). merged ms moves (total - left)) (drop_all at all (slice_get_none all at there)) ∙ ap (λ (l : List Move). map step_of l) none
      by_mark (Some m) there =
          let more = no_mark is m there in
          let in_all = w.within at m (slice_get_within all at m there) in
          let b : m.before ≤ total = subst (λ (y : Mark). y.before ≤ total) (get_or_from_slice_get all at m m there) in_all in
          let len : length moves ≡ 0 = ap (λ (l : List Move). length l) none in
          absurd (omega (arith, more, b, w.left_is, len))

  pub move_first : mark_reached (slice_get all at) (total - left) ≡ None → (m : Move) → Some m ≡ slice_get moves 0 → Some (step_of m) ≡ slice_get view 0
  move_first is m there = by_moves moves refl there
    where
      by_moves : (l : List Move) → moves ≡ l → Some m ≡ slice_get l 0 → Some (step_of m) ≡ slice_get view 0
      by_moves [] has h = cc
      by_moves (x ∷ xs) has h = ap (λ (o : Option Move). option_map step_of o) h ∙ sym (ap (λ (g : List ChainEntry). slice_get g 0) (move_told is x xs has))

  pub move_rest : mark_reached (slice_get all at) (total - left) ≡ None → (m : Move) → Some m ≡ slice_get moves 0
      → merged (drop at all) (drop 1 moves) (total - (left - 1)) ≡ drop 1 view
  move_rest is m there = by_moves moves refl there
    where
      by_moves : (l : List Move) → moves ≡ l → Some m ≡ slice_get l 0 → merged (drop at all) (drop 1 moves) (total - (left - 1)) ≡ drop 1 view
      by_moves [] has h = cc
      by_moves (x ∷ xs) has h = ap (λ (l : List Move). merged (drop at all) (drop 1 l) (total - (left - 1))) has
          ∙ sym (ap (λ (g : List ChainEntry). drop 1 g) (move_told is x xs has))

  pub none_first : mark_reached (slice_get all at) (total - left) ≡ None → None ≡ slice_get moves 0 → None ≡ slice_get view 0
  none_first is none = by_moves moves refl none
    where
      by_moves : (l : List Move) → moves ≡ l → None ≡ slice_get l 0 → None ≡ slice_get view 0
      by_moves [] has h = sym (ap (λ (g : List ChainEntry). slice_get g 0) (none_told is has))
      by_moves (x ∷ xs) has h = cc

  pub none_rest : mark_reached (slice_get all at) (total - left) ≡ None → None ≡ slice_get moves 0
      → merged (drop at all) (drop 1 moves) (total - left) ≡ drop 1 view
  none_rest is none = by_moves moves refl none
    where
      by_moves : (l : List Move) → moves ≡ l → None ≡ slice_get l 0 → merged (drop at all) (drop 1 moves) (total - left) ≡ drop 1 view
      by_moves [] has h =
          ap (λ (l : List Move). merged (drop at all) (drop 1 l) (total - left)) has
          ∙ (ap (λ (l : List Move). merged (drop at all) l (total - left)) (sym has)
          ∙ (v ∙ (none_told is has ∙ sym (ap (λ (g : List ChainEntry). drop 1 g) (none_told is has)))))
      by_moves (x ∷ xs) has h = cc
