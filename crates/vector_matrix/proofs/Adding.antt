-- Sums over a list in which one place changes.
use Rattle.std.proofs.Common.{◌≡◌, ◌≢◌, ℕ, zero, suc, ◌+◌, ◌≤◌, List, [], ◌∷◌, sum_by, set, refl, sym, ap, arith}
use Rattle.std.proofs.lemmas.List.Sums.{sum_by-cons}
use mathlib.Core.Option.{some, some-injective, some-ne-none}
use lib.ListN.{get_elem?}

module _ {A : Type 0} where
  pub set_there : (l : List A) (i : ℕ) (a b : A) → get_elem? l i ≡ some b → get_elem? (set l i a) i ≡ some a
  set_there [] i a b e = absurd (some-ne-none b (sym e))
  set_there (x ∷ xs) zero a b e = refl
  set_there (x ∷ xs) (suc i) a b e = set_there xs i a b e

  module _ (f : A → ℕ) where
    pub total_set : (l : List A) (i : ℕ) (a b : A) → get_elem? l i ≡ some b → sum_by f (set l i a) + f b ≡ sum_by f l + f a
    total_set [] i a b e = absurd (some-ne-none b (sym e))
    total_set (x ∷ xs) zero a b e = omega (arith, sum_by-cons f a xs, sum_by-cons f x xs, ap f (some-injective x b e))
    total_set (x ∷ xs) (suc i) a b e = omega (arith, sum_by-cons f x (set xs i a), sum_by-cons f x xs, total_set xs i a b e)

    pub total_least : (l : List A) (i : ℕ) (a : A) → get_elem? l i ≡ some a → f a ≤ sum_by f l
    total_least [] i a e = absurd (some-ne-none a (sym e))
    total_least (x ∷ xs) zero a e = omega (arith, sum_by-cons f x xs, ap f (some-injective x a e))
    total_least (x ∷ xs) (suc i) a e = omega (arith, sum_by-cons f x xs, total_least xs i a e)

    pub total_two : (l : List A) (i j : ℕ) (a b : A) → i ≢ j → get_elem? l i ≡ some a → get_elem? l j ≡ some b → f a + f b ≤ sum_by f l
    total_two [] i j a b apart e g = absurd (some-ne-none a (sym e))
    total_two (x ∷ xs) zero zero a b apart e g = absurd (apart refl)
    total_two (x ∷ xs) zero (suc j) a b apart e g = omega (arith, sum_by-cons f x xs, ap f (some-injective x a e), total_least xs j b g)
    total_two (x ∷ xs) (suc i) zero a b apart e g = omega (arith, sum_by-cons f x xs, ap f (some-injective x b g), total_least xs i a e)
    total_two (x ∷ xs) (suc i) (suc j) a b apart e g = omega (arith, sum_by-cons f x xs, total_two xs i j a b (λ h. apart (ap suc h)) e g)

    pub total_none : (l : List A) → ((j : ℕ) (b : A) → get_elem? l j ≡ some b → f b ≡ 0) → sum_by f l ≡ 0
    total_none [] none = refl
    total_none (x ∷ xs) none = omega (arith, sum_by-cons f x xs, none 0 x refl, total_none xs (λ j. none (suc j)))

    pub total_one : (l : List A) (i : ℕ) (a : A) → get_elem? l i ≡ some a → ((j : ℕ) (b : A) → get_elem? l j ≡ some b → j ≢ i → f b ≡ 0) → sum_by f l ≡ f a
    total_one [] i a e none = absurd (some-ne-none a (sym e))
    total_one (x ∷ xs) zero a e none = omega (
      arith,
      sum_by-cons f x xs,
      ap f (some-injective x a e),
      total_none xs
          (λ j b g. none (suc j) b g (λ h. omega arith)),
    )
    total_one (x ∷ xs) (suc i) a e none = omega (
      arith,
      sum_by-cons f x xs,
      none 0 x refl (λ h. omega arith),
      total_one
          xs i a e (λ j b g apart. none (suc j) b g (λ h. apart (omega (arith, h)))),
    )
