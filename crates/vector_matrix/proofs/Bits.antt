-- One bit of one word changes.
use Rattle.std.proofs.Common.{◌≡◌, ◌≢◌, ℕ, zero, suc, ◌*◌, ◌^◌, ◌<◌, ◌==◌, Bool, true, false, not, ◌&&◌, eqb, min, List}
use Rattle.std.proofs.Common.{length, set, slice_index, bit_or, bit_and, w64, refl, sym, ap, ◌∙◌, subst, inl, inr}
use Rattle.std.proofs.Common.{eq-eqb, eqb-true, arith}
use Rattle.std.proofs.lemmas.Bool.{false≢true, eqb-false, cases_lt}
use Rattle.std.proofs.lemmas.Bool.Decides.{nat_tests}
use Rattle.std.proofs.lemmas.List.{get_or-set_same, get_or-set_other}
use Rattle.std.proofs.lemmas.Nat.{one_shl, pow_pos}
use Rattle.std.proofs.lemmas.Nat.Bits.{bit_at_and, bit_at-lt, bit_at_above, bit_at_set_same, bit_at_set_other, bit_at_clear_same, bit_at_clear_other, and_pow}
use Rattle.std.specs.Int.{bit_at, bit_not}
use Rattle.vector_matrix.specs.declared.view.Vector.{Vector}
use Rattle.vector_matrix.specs.Vectors.{same_vector}
use Rattle.vector_matrix.specs.Rule.{bit_of}
use Rattle.vector_matrix.specs.Steps.{has}

-- ---- a word

pub or_same : (n k : ℕ) → k < 64 → bit_at (bit_or n (2 ^ k)) k ≡ 1
or_same n k few = subst (λ b. bit_at (bit_or n b) k ≡ 1) (one_shl k 64 few) (bit_at_set_same w64 n k few)

pub or_other : (n k i : ℕ) → k < 64 → i ≢ k → bit_at (bit_or n (2 ^ k)) i ≡ bit_at n i
or_other n k i few apart = subst (λ b. bit_at (bit_or n b) i ≡ bit_at n i) (one_shl k 64 few) (bit_at_set_other w64 n k few i apart)

pub and_same : (n k : ℕ) → k < 64 → bit_at (bit_and n (bit_not w64 (2 ^ k))) k ≡ 0
and_same n k few = subst (λ b. bit_at (bit_and n (bit_not w64 b)) k ≡ 0) (one_shl k 64 few) (bit_at_clear_same w64 n k few)

pub and_other : (n k i : ℕ) → n < 2 ^ 64 → k < 64 → i ≢ k → bit_at (bit_and n (bit_not w64 (2 ^ k))) i ≡ bit_at n i
and_other n k i small few apart = elim (cases_lt i 64) [
  | inl t ↦ subst (λ b. bit_at (bit_and n (bit_not w64 b)) i ≡ bit_at n i) (one_shl k 64 few) (bit_at_clear_other w64 n k few i t apart)
  | inr t ↦ bit_at_and n (bit_not w64 (2 ^ k)) i ∙ none (bit_at n i) (bit_at (bit_not w64 (2 ^ k)) i) (bit_at_above n 64 i small t)
]
  where
    none : (b c : ℕ) → b ≡ 0 → min b c ≡ b
    none b c e = omega arith

-- the bit is found set exactly if the number's part is not 0
pub tested : (n k : ℕ) → not (bit_and n (2 ^ k) == 0) ≡ has n k
tested n k = ap (λ m. not (m == 0)) (and_pow n k) ∙ of_bit (bit_at n k) (bit_at-lt n k)
  where
    of_bit : (b : ℕ) → b < 2 → not (b * 2 ^ k == 0) ≡ (b == 1)
    of_bit zero few = grind (arith, nat_tests)
    of_bit (suc zero) few = let p = pow_pos k in grind (arith, nat_tests)
    of_bit (suc (suc b)) few = absurd (omega (arith, few))

pub has_bit : (n k : ℕ) → has n k ≡ true → bit_at n k ≡ 1
has_bit n k is = eqb-true (bit_at n k) 1 is

pub has_none : (n k : ℕ) → has n k ≡ false → bit_at n k ≡ 0
has_none n k is = let lt = bit_at-lt n k in let ne : bit_at n k ≢ 1 = eqb-false (bit_at n k) 1 is in omega arith

-- ---- the words

pub at_own : (p : Vector) (words : List ℕ) (w : ℕ) → p.cpu.0 < length words → bit_of p (set words p.cpu.0 w) ≡ bit_at w p.number
at_own p words w inside = ap (λ n. bit_at n p.number) (get_or-set_same words p.cpu.0 w 0 inside)

-- a word that differs in the vector's bit alone changes no other vector's bit
pub at_other : (p q : Vector) (words : List ℕ) (w : ℕ) → p.cpu.0 < length words → same_vector p q ≡ false
    → ((i : ℕ) → i ≢ p.number → bit_at w i ≡ bit_at (slice_index words p.cpu.0) i) → bit_of q (set words p.cpu.0 w) ≡ bit_of q words
at_other p q words w inside apart alike = by_test (eqb q.cpu.0 p.cpu.0) refl
  where
    by_test : (t : Bool) → eqb q.cpu.0 p.cpu.0 ≡ t → bit_of q (set words p.cpu.0 w) ≡ bit_of q words
    by_test true e =
        let same : q.cpu.0 ≡ p.cpu.0 = eqb-true q.cpu.0 p.cpu.0 e in
        let other : q.number ≢ p.number =
        λ h. false≢true (sym apart ∙ (ap (λ t. t && (p.number == q.number)) (eq-eqb p.cpu.0 q.cpu.0 (sym same)) ∙ eq-eqb p.number q.number (sym h))) in
        ap (λ c. bit_at (slice_index (set words p.cpu.0 w) c) q.number) same
        ∙ (ap (λ n. bit_at n q.number) (get_or-set_same words p.cpu.0 w 0 inside)
        ∙ (alike q.number other ∙ ap (λ c. bit_at (slice_index words c) q.number) (sym same)))
    by_test false e = ap (λ n. bit_at n q.number) (get_or-set_other words p.cpu.0 q.cpu.0 w 0 (eqb-false q.cpu.0 p.cpu.0 e))
