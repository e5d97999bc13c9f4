-- How numbers and picks are spelled, place by place.
use Rattle.std.proofs.Common.{◌≡◌, ℕ, suc, ◌+◌, ◌-◌, ◌*◌, ◌<◌, ◌≤◌, Bool, true, false, not, cond, ltb, leb, List, []}
use Rattle.std.proofs.Common.{◌∷◌, length, take, drop, get_or, Some, None, refl, sym, ap, ◌∙◌, arith}
use Rattle.std.specs.List.{position, position_or_len}
use Rattle.std.proofs.lemmas.Bool.{lt-leb, le-leb}
use Rattle.std.proofs.lemmas.Bool.Decides.{nat_tests}
use Rattle.std.proofs.lemmas.List.{take_all, at_drop_more, at_drop_all}
use Rattle.board_words.specs.Spelling.{value_of, value_after, before_star, after_star, is_star}

-- a number only grows by further digits
pub grows : (n : ℕ) (bs : List ℕ) → n ≤ value_after n bs
grows n [] = omega arith
grows n (b ∷ bs) = let more = grows (10 * n + (b - 48)) bs in omega (arith, more)

pub value_more : (digits : List ℕ) (i v : ℕ) → i < length digits
    → value_after v (drop i digits) ≡ value_after (10 * v + (get_or digits i 0 - 48)) (drop (i + 1) digits)
value_more digits i v less = at_drop_more (value_after v) digits i 0 less

pub too_large : (digits : List ℕ) (i v high : ℕ) → high < v → value_after v (drop i digits) ≡ value_of digits
    → None ≡ cond (leb (value_of digits) high) (Some (value_of digits)) None
too_large digits i v high more is =
    let grown = grows v (drop i digits) in
    let above : high < value_of digits = omega (arith, grown, is) in
    rw (lt-leb (value_of digits) high above) refl

pub whole : (digits : List ℕ) (i v high : ℕ) → length digits ≤ i → v ≤ high
    → value_after v (drop i digits) ≡ value_of digits → Some v
    ≡ cond (leb (value_of digits) high) (Some (value_of digits)) None
whole digits i v high past small is =
    let same : v ≡ value_of digits = sym (at_drop_all (value_after v) digits i past) ∙ is in
    let below : value_of digits ≤ high = omega (arith, same) in
    rw (le-leb (value_of digits) high below) (ap (λ n. Some n) same)

-- the star

front_if : (t : Bool) (b : ℕ) (bs : List ℕ) (n : ℕ) → before_star bs ≡ take n bs → cond t [] (b ∷ before_star bs) ≡ take (cond (not t) (1 + n) 0) (b ∷ bs)
front_if true b bs n known = refl
front_if false b bs n known =
    let e : 1 + n ≡ suc n = omega arith in ap (λ (x : List ℕ). b ∷ x) known ∙ ap (λ m. take m (b ∷ bs)) (sym e)

pub before_star_is : (word : List ℕ) → before_star word ≡ take (position_or_len is_star word) word
before_star_is [] = refl
before_star_is (b ∷ bs) = front_if (is_star b) b bs (position_or_len is_star bs) (before_star_is bs)

after_if : (t : Bool) (b : ℕ) (bs : List ℕ) (n : ℕ) → after_star bs ≡ cond (ltb n (length bs)) (Some (drop (n + 1) bs)) None
    → cond t (Some bs) (after_star bs) ≡ cond (ltb (cond (not t) (1 + n) 0) (length (b ∷ bs))) (Some (drop (cond (not t) (1 + n) 0 + 1) (b ∷ bs))) None
after_if true b bs n known = let e : ltb 0 (length (b ∷ bs)) ≡ true = grind (arith, nat_tests) in rw e refl
after_if false b bs n known =
    let e : 1 + n ≡ suc n = omega arith in
    let f : 1 + n + 1 ≡ suc (n + 1) = omega arith in
    let g : ltb (1 + n) (length (b ∷ bs)) ≡ ltb n (length bs) = grind (arith, nat_tests) in
    known ∙ ap (λ (d : List ℕ). cond (ltb n (length bs)) (Some d) None) (sym (ap (λ m. drop m (b ∷ bs)) f))
    ∙ ap (λ t. cond t (Some (drop (1 + n + 1) (b ∷ bs))) None) (sym g)

pub after_star_is : (word : List ℕ) → after_star word ≡ cond (ltb (position_or_len is_star word) (length word))
    (Some (drop (position_or_len is_star word + 1) word)) None
after_star_is [] = refl
after_star_is (b ∷ bs) = after_if (is_star b) b bs (position_or_len is_star bs) (after_star_is bs)

found : (t : Bool) (i n : ℕ) (A : Type 0) (x : A) → Some i ≡ cond t (Some n) None → (i ≡ n) × (t ≡ true)
found true i n A x h = (cc, refl)
found false i n A x h = cc

missed : (t : Bool) (n : ℕ) → None ≡ cond t (Some n) None → t ≡ false
missed true n h = cc
missed false n h = refl

pub at_star : (word : List ℕ) (i : ℕ) → Some i ≡ position is_star word → (take i word ≡ before_star word) × (Some (drop (i + 1) word) ≡ after_star word)
at_star word i h =
    let at = found _ i (position_or_len is_star word) (List ℕ) word h in
    let start = before_star_is word in
    let rest = after_star_is word in (
      ap (λ n. take n word) at.0 ∙ sym start,
      ap (λ n. Some (drop (n + 1) word)) at.0 ∙ sym (rest ∙ ap (λ t. cond t (Some (drop (position_or_len is_star word + 1) word)) None) at.1),
    )

pub no_star : (word : List ℕ) → None ≡ position is_star word → (word ≡ before_star word) × (None ≡ after_star word)
no_star word h =
    let none = missed _ (position_or_len is_star word) h in
    let past : length word ≤ position_or_len is_star word = grind (arith, nat_tests) in (
      sym (before_star_is word ∙ take_all (position_or_len is_star word) word past),
      sym (after_star_is word ∙ ap (λ t. cond t (Some (drop (position_or_len is_star word + 1) word)) None) none),
    )
