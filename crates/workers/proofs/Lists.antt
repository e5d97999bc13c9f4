-- Places of lists.
use Rattle.std.proofs.Common.{◌≡◌, ℕ, zero, suc, ◌+◌, ◌<◌, ◌⊎◌, inl, inr, Some, List, [], ◌∷◌, ◌++◌, map, length, get_or, set, slice_get, refl, sym, ap, arith}
use Rattle.irq_laws.proofs.Chosen.{the_same}

module _ {A : Type 0} where
  -- behind the end of a list that grew by one
  pub at_snoc : (xs : List A) (y : A) (k : ℕ) (x : A) → slice_get (xs ++ y ∷ []) k ≡ Some x → (slice_get xs k ≡ Some x) ⊎ ((k ≡ length xs) × (y ≡ x))
  at_snoc [] y zero x at = inr (refl, the_same y x at)
  at_snoc [] y (suc k) x at = cc
  at_snoc (z ∷ zs) y zero x at = inl at
  at_snoc (z ∷ zs) y (suc k) x at = elim (at_snoc zs y k x at) [ inl old ↦ inl old | inr new ↦ inr (ap suc new.0, new.1) ]

  pub at_old : (xs ys : List A) (k : ℕ) (x : A) → slice_get xs k ≡ Some x → slice_get (xs ++ ys) k ≡ Some x
  at_old [] ys k x at = cc
  at_old (z ∷ zs) ys zero x at = at
  at_old (z ∷ zs) ys (suc k) x at = at_old zs ys k x at

  pub at_end : (xs : List A) (y : A) → slice_get (xs ++ y ∷ []) (length xs) ≡ Some y
  at_end [] y = refl
  at_end (z ∷ zs) y = at_end zs y

  pub within : (xs : List A) (k : ℕ) (x : A) → slice_get xs k ≡ Some x → k < length xs
  within [] k x at = cc
  within (z ∷ zs) zero x at = omega arith
  within (z ∷ zs) (suc k) x at = let w = within zs k x at in omega (arith, w)

  pub there : (xs : List A) (k : ℕ) → k < length xs → (x : A) × (slice_get xs k ≡ Some x)
  there [] k less = absurd (omega (arith, less))
  there (z ∷ zs) zero less = (z, refl)
  there (z ∷ zs) (suc k) less = there zs k (omega (arith, less))

  pub there_or : (xs : List A) (k : ℕ) (d : A) → k < length xs → slice_get xs k ≡ Some (get_or xs k d)
  there_or [] k d less = absurd (omega (arith, less))
  there_or (z ∷ zs) zero d less = refl
  there_or (z ∷ zs) (suc k) d less = there_or zs k d (omega (arith, less))

  pub at_set : (xs : List A) (i : ℕ) (y : A) (k : ℕ) (x : A) → slice_get (set xs i y) k ≡ Some x
      → ((k ≡ i) × (x ≡ y)) ⊎ ((k ≡ i → ⊥) × (slice_get xs k ≡ Some x))
  at_set [] i y k x at = cc
  at_set (z ∷ zs) zero y zero x at = inl (refl, sym (the_same y x at))
  at_set (z ∷ zs) zero y (suc k) x at = inr ((λ h. omega arith), at)
  at_set (z ∷ zs) (suc i) y zero x at = inr ((λ h. omega arith), at)
  at_set (z ∷ zs) (suc i) y (suc k) x at = elim (at_set zs i y k x at)
      [ inl here ↦ inl (ap suc here.0, here.1) | inr other ↦ inr ((λ h. other.0 (omega arith)), other.1) ]

  pub set_there : (xs : List A) (k : ℕ) (y x : A) → slice_get xs k ≡ Some x → slice_get (set xs k y) k ≡ Some y
  set_there [] k y x at = cc
  set_there (z ∷ zs) zero y x at = refl
  set_there (z ∷ zs) (suc k) y x at = set_there zs k y x at

  pub length_snoc : (xs : List A) (y : A) → length (xs ++ y ∷ []) ≡ length xs + 1
  length_snoc [] y = refl
  length_snoc (z ∷ zs) y = let l = length_snoc zs y in omega (arith, l)

  pub none_left : (xs : List A) → length xs ≡ 0 → xs ≡ []
  none_left [] e = refl
  none_left (z ∷ zs) e = absurd (omega (arith, e))

pub at_map : {A B : Type 0} (f : A → B) (xs : List A) (k : ℕ) (x : A) → slice_get xs k ≡ Some x → slice_get (map f xs) k ≡ Some (f x)
at_map f [] k x at = cc
at_map f (z ∷ zs) zero x at = ap (λ (y : _). Some (f y)) (the_same z x at)
at_map f (z ∷ zs) (suc k) x at = at_map f zs k x at

-- what stands at a place of a list of images
pub of_map : {A B : Type 0} (f : A → B) (xs : List A) (k : ℕ) (y : B) → slice_get (map f xs) k ≡ Some y → (x : A) × (slice_get xs k ≡ Some x) × (f x ≡ y)
of_map f [] k y at = cc
of_map f (z ∷ zs) zero y at = (z, refl, the_same (f z) y at)
of_map f (z ∷ zs) (suc k) y at = of_map f zs k y at

pub two : (k i : ℕ) → k < i + 1 → (k < i) ⊎ (k ≡ i)
two k i h = grind arith
