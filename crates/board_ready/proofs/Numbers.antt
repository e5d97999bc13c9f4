-- Bits of a word, as truth values.
use Rattle.std.proofs.Common.{◌≡◌, ℕ, zero, suc, ◌-◌, ◌<◌, ◌^◌, ◌*◌, ◌%◌, Bool, true, false, not, ◌||◌, ◌&&◌, cond}
use Rattle.std.proofs.Common.{◌==◌, eqb, min, max, is_some, Some, None, bit_or, bit_and, w64, refl, sym, ap, ◌∙◌}
use Rattle.std.proofs.Common.{eqb-true, arith}
use Rattle.std.proofs.lemmas.Bool.{eqb-false}
use Rattle.std.proofs.lemmas.Nat.Bits.{bit_at_or, bit_at_and, bit_at_not, bit_at-lt, bit_at-zero, bit_at-trailing_zeros}
use Rattle.std.proofs.lemmas.Nat.Bits.{bit_at_set_same, bit_at_set_other, bit_at_clear_same, bit_at_clear_other}
use Rattle.std.specs.Int.{bit_at, bit_not, trailing_zeros}
use Rattle.board_ready.specs.First.{first_of}
use Rattle.board_ready.specs.Sets.{has}
use Rattle.board_ready.proofs.First.{from_is, from_none}

pub either_has : (a b i : ℕ) → has (bit_or a b) i ≡ (has a i || has b i)
either_has a b i = ap (λ n. n == 1) (bit_at_or a b i) ∙ of_two (bit_at a i) (bit_at b i) (bit_at-lt a i) (bit_at-lt b i)
  where
    of_two : (x y : ℕ) → x < 2 → y < 2 → (max x y == 1) ≡ ((x == 1) || (y == 1))
    of_two zero zero p q = refl
    of_two zero (suc zero) p q = refl
    of_two (suc zero) zero p q = refl
    of_two (suc zero) (suc zero) p q = refl
    of_two (suc (suc x)) y p q = absurd (omega (arith, p))
    of_two x (suc (suc y)) p q = absurd (omega (arith, q))

pub both_have : (a b i : ℕ) → has (bit_and a b) i ≡ (has a i && has b i)
both_have a b i = ap (λ n. n == 1) (bit_at_and a b i) ∙ of_two (bit_at a i) (bit_at b i) (bit_at-lt a i) (bit_at-lt b i)
  where
    of_two : (x y : ℕ) → x < 2 → y < 2 → (min x y == 1) ≡ ((x == 1) && (y == 1))
    of_two zero zero p q = refl
    of_two zero (suc zero) p q = refl
    of_two (suc zero) zero p q = refl
    of_two (suc zero) (suc zero) p q = refl
    of_two (suc (suc x)) y p q = absurd (omega (arith, p))
    of_two x (suc (suc y)) p q = absurd (omega (arith, q))

pub others_have : (a i : ℕ) → a < 2 ^ 64 → i < 64 → has (bit_not w64 a) i ≡ not (has a i)
others_have a i small few = ap (λ n. n == 1) (bit_at_not w64 a i small few) ∙ of_one (bit_at a i) (bit_at-lt a i)
  where
    of_one : (x : ℕ) → x < 2 → (1 - x == 1) ≡ not (x == 1)
    of_one zero p = refl
    of_one (suc zero) p = refl
    of_one (suc (suc x)) p = absurd (omega (arith, p))

-- one number put in, or taken out
pub with_number : (word n i : ℕ) → n < 64 → i < 64 → has (bit_or word (1 * 2 ^ n % 2 ^ 64)) i ≡ cond (eqb i n) true (has word i)
with_number word n i few small = by_test (eqb i n) refl
  where
    by_test : (b : Bool) → eqb i n ≡ b → has (bit_or word (1 * 2 ^ n % 2 ^ 64)) i ≡ cond b true (has word i)
    by_test true is = let e : i ≡ n = eqb-true i n is in ap (has (bit_or word (1 * 2 ^ n % 2 ^ 64))) e ∙ ap (λ m. m == 1) (bit_at_set_same w64 word n few)
    by_test false is = ap (λ m. m == 1) (bit_at_set_other w64 word n few i (eqb-false i n is))

pub without_number : (word n i : ℕ) → n < 64 → i < 64 → has (bit_and word (bit_not w64 (1 * 2 ^ n % 2 ^ 64))) i ≡ cond (eqb i n) false (has word i)
without_number word n i few small = by_test (eqb i n) refl
  where
    by_test : (b : Bool) → eqb i n ≡ b → has (bit_and word (bit_not w64 (1 * 2 ^ n % 2 ^ 64))) i ≡ cond b false (has word i)
    by_test true is = let e : i ≡ n = eqb-true i n is in
        ap (has (bit_and word (bit_not w64 (1 * 2 ^ n % 2 ^ 64)))) e
        ∙ ap (λ m. m == 1) (bit_at_clear_same w64 word n few)
    by_test false is = ap (λ m. m == 1) (bit_at_clear_other w64 word n few i small (eqb-false i n is))

-- the numbers of one word that the choice has, and the others of the other word
pub chosen_has : (word choice other i : ℕ) → choice < 2 ^ 64 → i < 64
    → has (bit_or (bit_and word (bit_not w64 choice)) (bit_and choice other)) i
    ≡ cond (has choice i) (has other i) (has word i)
chosen_has word choice other i small few =
    either_has (bit_and word (bit_not w64 choice)) (bit_and choice other) i
    ∙ (ap (λ b. b || has (bit_and choice other) i) (both_have word (bit_not w64 choice) i ∙ ap (λ b. has word i && b) (others_have choice i small few))
    ∙ (ap (λ b. (has word i && not (has choice i)) || b) (both_have choice other i) ∙ of_three (has word i) (has choice i) (has other i)))
  where
    of_three : (a b c : Bool) → ((a && not b) || (b && c)) ≡ cond b c a
    of_three true true true = refl
    of_three true true false = refl
    of_three true false c = refl
    of_three false true true = refl
    of_three false true false = refl
    of_three false false c = refl

-- the lowest number of a word, and none of the empty one
pub lowest_number : (word : ℕ) → 0 < word → word < 2 ^ 64 → first_of (has word) 64 ≡ Some (trailing_zeros w64 word)
lowest_number word some small =
    let low = bit_at-trailing_zeros w64 word some small in
    from_is (has word) 0 64 (trailing_zeros w64 word) (omega arith) (omega (arith, low.0)) (ap (λ n. n == 1) low.1)
    (λ i below. ap (λ n. n == 1) (low.2 i below))

pub no_number : (n : ℕ) → first_of (has 0) n ≡ None
no_number n = from_none (has 0) 0 n (λ i a b. ap (λ m. m == 1) (bit_at-zero i))

-- a word has a number exactly if it isn't 0
pub some_number : (word : ℕ) → word < 2 ^ 64 → not (eqb word 0) ≡ is_some (first_of (has word) 64)
some_number word small = by_test (eqb word 0) refl
  where
    by_test : (b : Bool) → eqb word 0 ≡ b → not b ≡ is_some (first_of (has word) 64)
    by_test true is = let e : word ≡ 0 = eqb-true word 0 is in sym (ap (λ w. is_some (first_of (has w) 64)) e ∙ ap is_some (no_number 64))
    by_test false is = let ne : word ≡ 0 → ⊥ = eqb-false word 0 is in sym (ap is_some (lowest_number word (omega (arith, ne)) small))

-- the numbers of five words
pub all_have : (n a b c d r : ℕ) (p q s t : Bool) → has a r ≡ p → has b r ≡ q → has c r ≡ s → has d r ≡ t
    → has (bit_or (bit_or (bit_or (bit_or n a) b) c) d) r ≡ ((((has n r || p) || q) || s) || t)
all_have n a b c d r p q s t of_a of_b of_c of_d =
    step (bit_or (bit_or (bit_or n a) b) c) d (((has n r || p) || q) || s) t
    (step (bit_or (bit_or n a) b) c ((has n r || p) || q) s
    (step (bit_or n a) b (has n r || p) q (step n a (has n r) p refl of_a) of_b) of_c) of_d
  where
    step : (x y : ℕ) (u v : Bool) → has x r ≡ u → has y r ≡ v → has (bit_or x y) r ≡ (u || v)
    step x y u v of_x of_y = either_has x y r ∙ (ap (λ e. e || has y r) of_x ∙ ap (λ e. u || e) of_y)
