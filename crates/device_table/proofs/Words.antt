-- A bit of a list of words.
use Rattle.std.proofs.Common.{◌≡◌, ℕ, zero, suc, ◌+◌, ◌*◌, ◌/◌, ◌%◌, ◌<◌, ◌≤◌, Bool, true, false, ◌||◌, ◌&&◌, cond}
use Rattle.std.proofs.Common.{◌==◌, eqb, max, Option, Some, None, List, length, set, get_or, slice_index, slice_set}
use Rattle.std.proofs.Common.{bit_or, refl, sym, ap, ◌∙◌, eqb-true, inl, inr, ◌⊎◌, ◌^◌, ◌-◌, w64, arith}
use Rattle.std.proofs.lemmas.Bool.{eqb-false, cases_lt}
use Rattle.std.proofs.lemmas.List.{get_or-set_same, get_or-set_other}
use Rattle.std.proofs.lemmas.Nat.Bits.{bit_at_or, bit_at-lt, bit_at-zero, bit_at-trailing_zeros}
use Rattle.std.specs.Int.{bit_at, trailing_zeros}
use Rattle.device_table.specs.RankSets.{holds, IsFirst}

place : (k t : ℕ) → t < 64 → (64 * k + t) / 64 ≡ k
place k t h = omega (arith, h)

within : (k t : ℕ) → t < 64 → (64 * k + t) % 64 ≡ t
within k t h = omega (arith, h)

-- one bit of one word changes
pub change_bit : (ws : List ℕ) (rank r : ℕ) (b : Bool) (word : ℕ) → rank / 64 < length ws → (bit_at word (rank % 64) == 1) ≡ b
    → ((i : ℕ) → i < 64 → (i ≡ rank % 64 → ⊥) → bit_at word i ≡ bit_at (slice_index ws (rank / 64)) i)
    → holds (slice_set ws (rank / 64) word) r ≡ cond (r == rank) b (holds ws r)
change_bit ws rank r b word inside own others = by_test (eqb r rank) refl
  where
    same_word : r / 64 ≡ rank / 64 → (r ≡ rank → ⊥) → holds (slice_set ws (rank / 64) word) r ≡ holds ws r
    same_word e n =
        let apart : r % 64 ≡ rank % 64 → ⊥ = λ m. n (omega (arith, e, m)) in
        let small : r % 64 < 64 = omega arith in
        let read : slice_index (slice_set ws (rank / 64) word) (r / 64)
        ≡ word = ap (slice_index (slice_set ws (rank / 64) word)) e
        ∙ get_or-set_same ws (rank / 64) word 0 inside in
        let kept : bit_at word (r % 64) ≡ bit_at (slice_index ws (r / 64)) (r % 64) = others (r % 64) small apart
        ∙ ap (λ k. bit_at (slice_index ws k) (r % 64)) (sym e) in
        ap (λ w. bit_at w (r % 64) == 1) read ∙ ap (λ n. n == 1) kept

    by_word : (t : Bool) → eqb (r / 64) (rank / 64) ≡ t → (r ≡ rank → ⊥) → holds (slice_set ws (rank / 64) word) r ≡ holds ws r
    by_word true is n = same_word (eqb-true (r / 64) (rank / 64) is) n
    by_word false is n = ap (λ w. bit_at w (r % 64) == 1) (get_or-set_other ws (rank / 64) (r / 64) word 0 (eqb-false (r / 64) (rank / 64) is))

    by_test : (t : Bool) → eqb r rank ≡ t → holds (slice_set ws (rank / 64) word) r ≡ cond t b (holds ws r)
    by_test true is =
        let e : r ≡ rank = eqb-true r rank is in
        ap (holds (slice_set ws (rank / 64) word)) e ∙ (ap (λ w. bit_at w (rank % 64) == 1) (get_or-set_same ws (rank / 64) word 0 inside) ∙ own)
    by_test false is = by_word (eqb (r / 64) (rank / 64)) refl (eqb-false r rank is)

-- a bit of either of two words
pub either_bit : (a b i : ℕ) → (bit_at (bit_or a b) i == 1) ≡ ((bit_at a i == 1) || (bit_at b i == 1))
either_bit a b i = ap (λ n. n == 1) (bit_at_or a b i) ∙ of_two (bit_at a i) (bit_at b i) (bit_at-lt a i) (bit_at-lt b i)
  where
    of_two : (x y : ℕ) → x < 2 → y < 2 → (max x y == 1) ≡ ((x == 1) || (y == 1))
    of_two zero zero p q = refl
    of_two zero (suc zero) p q = refl
    of_two (suc zero) zero p q = refl
    of_two (suc zero) (suc zero) p q = refl
    of_two (suc (suc x)) y p q = absurd (omega (arith, p))
    of_two x (suc (suc y)) p q = absurd (omega (arith, q))

-- the lowest bit of a word, after words without any
pub found_first : (test : ℕ → Bool) (word k : ℕ) → k < 4 → 0 < word → word < 2 ^ 64
    → ((r : ℕ) → r / 64 ≡ k → test r ≡ (bit_at word (r % 64) == 1)) → ((r : ℕ) → r < 64 * k → test r ≡ false)
    → IsFirst test (Some (64 * k + trailing_zeros w64 word))
found_first test word k few some small is none = (
  omega (arith, low.0, few),
  is r at
      ∙ (ap (λ i. bit_at word i == 1) rest ∙ ap (λ n. n == 1) low.1),
  λ q below. by_order q below (cases_lt q (64 * k)),
)
  where
    low : (trailing_zeros w64 word < 64) × (bit_at word (trailing_zeros w64 word) ≡ 1) × ((i : ℕ) → i < trailing_zeros w64 word → bit_at word i ≡ 0)
    low = bit_at-trailing_zeros w64 word some small

    r : ℕ
    r = 64 * k + trailing_zeros w64 word

    at : (64 * k + trailing_zeros w64 word) / 64 ≡ k
    at = place k (trailing_zeros w64 word) low.0

    rest : (64 * k + trailing_zeros w64 word) % 64 ≡ trailing_zeros w64 word
    rest = within k (trailing_zeros w64 word) low.0

    by_order : (q : ℕ) → q < 64 * k + trailing_zeros w64 word → (q < 64 * k) ⊎ (64 * k ≤ q) → test q ≡ false
    by_order q below (inl before) = none q before
    by_order q below (inr here) =
        let e : q / 64 ≡ k = omega (arith, below, here, low.0) in
        let less : q % 64 < trailing_zeros w64 word = omega (arith, below, here, low.0) in
        is q e ∙ ap (λ n. n == 1) (low.2 (q % 64) less)

-- a word without bits
pub none_here : (test : ℕ → Bool) (word k : ℕ) → word ≡ 0
    → ((r : ℕ) → r / 64 ≡ k → test r ≡ (bit_at word (r % 64) == 1)) → ((r : ℕ) → r < 64 * k → test r ≡ false) → (r : ℕ)
    → r < 64 * (k + 1) → test r ≡ false
none_here test word k empty is none r below = by_order (cases_lt r (64 * k))
  where
    by_order : (r < 64 * k) ⊎ (64 * k ≤ r) → test r ≡ false
    by_order (inl before) = none r before
    by_order (inr here) =
        let e : r / 64 ≡ k = omega (arith, below, here) in
        is r e ∙ (ap (λ w. bit_at w (r % 64) == 1) empty ∙ ap (λ n. n == 1) (bit_at-zero (r % 64)))

-- the test of a rank is a bit of its word
pub word_test : (ws os : List ℕ) (b : Bool) (word k : ℕ)
    → ((i : ℕ) → (bit_at word i == 1) ≡ ((bit_at (slice_index ws k) i == 1) ||
    (b && (bit_at (slice_index os k) i == 1))))
    → (r : ℕ) → r / 64 ≡ k → (holds ws r || (b && holds os r)) ≡ (bit_at word (r % 64) == 1)
word_test ws os b word k joined r e = ap (λ j. (bit_at (slice_index ws j) (r % 64) == 1) ||
    (b && (bit_at (slice_index os j) (r % 64) == 1))) e ∙ sym (joined (r % 64))
