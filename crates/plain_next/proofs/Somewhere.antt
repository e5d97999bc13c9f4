-- What holds at some place, and the last such place, by the places' numbers.
use Rattle.std.proofs.Common.{◌≡◌, ℕ, zero, suc, ◌<◌, Bool, true, false, List, [], ◌∷◌, length, take, drop, refl, ◌∙◌, arith}
use Rattle.std.proofs.lemmas.Bool.{or_left, or_right, or_from, cond-true, cond-false}
use Rattle.irq_model.specs.Places.{some_place, last_place}

module _ {A : Type 0} where
  pub some_at : (P : List A → List A → Bool) (xs : List A) (i : ℕ) → i < length xs → P (take i xs) (drop i xs) ≡ true → some_place P xs ≡ true
  some_at P [] i h e = absurd (omega arith)
  some_at P (x ∷ xs) zero h e = or_left _ _ e
  some_at P (x ∷ xs) (suc i) h e = or_right _ _ (some_at (λ after upto. P (x ∷ after) upto) xs i (omega arith) e)

  pub some_nowhere : (P : List A → List A → Bool) (xs : List A) → ((i : ℕ) → i < length xs → P (take i xs) (drop i xs) ≡ false) → some_place P xs ≡ false
  some_nowhere P [] h = refl
  some_nowhere P (x ∷ xs) h = or_from _ _ (h 0 (omega arith)) (some_nowhere (λ after upto. P (x ∷ after) upto) xs (λ i l. h (suc i) (omega arith)))

  pub last_at : (P : List A → List A → Bool) (xs : List A) (i : ℕ) → i < length xs → P (take i xs) (drop i xs) ≡ true
      → ((k : ℕ) → k < i → P (take k xs) (drop k xs) ≡ false) → last_place P xs ≡ drop i xs
  last_at P [] i h e n = absurd (omega arith)
  last_at P (x ∷ xs) zero h e n = cond-true _ _ _ e
  last_at P (x ∷ xs) (suc i) h e n =
      cond-false _ _ _ (n 0 (omega arith)) ∙ last_at (λ after upto. P (x ∷ after) upto) xs i (omega arith) e (λ k l. n (suc k) (omega arith))

  pub last_nowhere : (P : List A → List A → Bool) (xs : List A) → ((i : ℕ) → i < length xs → P (take i xs) (drop i xs) ≡ false) → last_place P xs ≡ []
  last_nowhere P [] h = refl
  last_nowhere P (x ∷ xs) h =
      cond-false _ _ _ (h 0 (omega arith)) ∙ last_nowhere (λ after upto. P (x ∷ after) upto) xs (λ i l. h (suc i) (omega arith))
