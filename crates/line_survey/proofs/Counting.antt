-- So many items pass.
use Rattle.std.proofs.Common.{◌≡◌, ◌≤◌, ◌+◌, ℕ, suc, inl, inr, Some, List, [], ◌∷◌, ◌++◌, length, slice_get, refl, ap, arith}
use Rattle.line_survey.specs.Surveyed.{AreSoMany}

module _ {X : Type 0} (P : X → Type 0) where
  -- one more item passes, or doesn't
  pub one_more : (xs : List X) (n : ℕ) (x : X) → P x → AreSoMany P xs n → AreSoMany P (xs ++ x ∷ []) (n + 1)
  one_more [] n x passes none = inl (passes, n, refl, none)
  one_more (y ∷ ys) n x passes (inl some) =
      inl (some.0, some.1 + 1, ap (λ m. m + 1) some.2, one_more ys some.1 x passes some.3)
  one_more (y ∷ ys) n x passes (inr other) = inr (other.0, one_more ys n x passes other.1)

  pub no_more : (xs : List X) (n : ℕ) (x : X) → (P x → ⊥) → AreSoMany P xs n → AreSoMany P (xs ++ x ∷ []) n
  no_more [] n x fails none = inr (fails, none)
  no_more (y ∷ ys) n x fails (inl some) = inl (some.0, some.1, some.2, no_more ys some.1 x fails some.3)
  no_more (y ∷ ys) n x fails (inr other) = inr (other.0, no_more ys n x fails other.1)

  pub none_pass : (xs : List X) → ((k : ℕ) (x : X) → slice_get xs k ≡ Some x → P x → ⊥) → AreSoMany P xs 0
  none_pass [] none = refl
  none_pass (y ∷ ys) none = inr (none 0 y refl, none_pass ys (λ k x is. none (suc k) x is))

  pub at_most : (xs : List X) (n : ℕ) → AreSoMany P xs n → n ≤ length xs
  at_most [] n none = omega (arith, none)
  at_most (y ∷ ys) n (inl some) = omega (arith, some.2, at_most ys some.1 some.3)
  at_most (y ∷ ys) n (inr other) = omega (arith, at_most ys n other.1)
