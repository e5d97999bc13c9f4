-- Lists by their places.
use Rattle.std.proofs.Common.{◌≡◌, ◌<◌, ◌≤◌, ◌+◌, Bool, true, false, ltb, subst, ℕ, zero, suc, ◌⊎◌, inl, inr, Some}
use Rattle.std.proofs.Common.{List, [], ◌∷◌, length, take, slice_get, slice_set, slice_index_or, refl, ap, sym, ◌∙◌}
use Rattle.std.proofs.Common.{arith}
use Rattle.std.proofs.lemmas.Bool.Decides.{nat_tests}
use Rattle.std.proofs.lemmas.List.Sums.{sum_by_more}
use Rattle.std.proofs.lemmas.Option.{slice_get_within, slice_get-get_or, get_or_from_slice_get, none-some}
use Rattle.std.specs.List.{sum_by}
use Rattle.state_search.proofs.Places.{same_some}

module _ {X : Type 0} where
  -- a sum with one more item
  pub sum_next : (f : X → ℕ) (xs : List X) (i : ℕ) (x : X) → slice_get xs i ≡ Some x → sum_by f (take (i + 1) xs) ≡ sum_by f (take i xs) + f x
  sum_next f xs i x is =
      sum_by_more f xs i x (slice_get_within xs i x is)
      ∙ ap (λ y. sum_by f (take i xs) + f y) (get_or_from_slice_get xs i x x is)

  -- an item among the first n
  pub taken : (n : ℕ) (xs : List X) (k : ℕ) (x : X) → slice_get (take n xs) k ≡ Some x → (k < n) × (slice_get xs k ≡ Some x)
  taken zero xs k x is = absurd (none-some x is)
  taken (suc n) [] k x is = absurd (none-some x is)
  taken (suc n) (z ∷ xs) zero x is = (omega arith, is)
  taken (suc n) (z ∷ xs) (suc k) x is = let rest = taken n xs k x is in (omega (arith, rest.0), rest.1)

  pub no_items : (xs : List X) → length xs ≡ 0 → xs ≡ []
  no_items [] none = refl
  no_items (x ∷ xs) none = absurd (omega (arith, none))

  -- ---- a list in which one item was put in place of another

  pub set_cases : (xs : List X) (k : ℕ) (y z : X) (j : ℕ) → slice_get (slice_set xs k y) j ≡ Some z
      → ((j ≡ k) × (y ≡ z)) ⊎ (slice_get xs j ≡ Some z)
  set_cases [] k y z j is = absurd (none-some z is)
  set_cases (x ∷ xs) zero y z zero is = inl (refl, same_some y z is)
  set_cases (x ∷ xs) zero y z (suc j) is = inr is
  set_cases (x ∷ xs) (suc k) y z zero is = inr is
  set_cases (x ∷ xs) (suc k) y z (suc j) is = elim (set_cases xs k y z j is) [ inl h ↦ inl (ap suc h.0, h.1) | inr h ↦ inr h ]

  pub set_here : (xs : List X) (k : ℕ) (x y : X) → slice_get xs k ≡ Some x → slice_get (slice_set xs k y) k ≡ Some y
  set_here [] k x y is = absurd (none-some x is)
  set_here (z ∷ zs) zero x y is = refl
  set_here (z ∷ zs) (suc k) x y is = set_here zs k x y is

  pub set_there : (xs : List X) (k j : ℕ) (x y : X) → (j ≡ k → ⊥) → slice_get xs j ≡ Some x → slice_get (slice_set xs k y) j ≡ Some x
  set_there [] k j x y other is = is
  set_there (z ∷ zs) zero zero x y other is = absurd (other refl)
  set_there (z ∷ zs) zero (suc j) x y other is = is
  set_there (z ∷ zs) (suc k) zero x y other is = is
  set_there (z ∷ zs) (suc k) (suc j) x y other is = set_there zs k j x y (λ same. other (ap suc same)) is

-- what is read at an index stands there
pub index_is : (xs ys : List ℕ) (k : ℕ) → ys ≡ xs → k < length xs → slice_get xs k ≡ Some (slice_index_or ys k 0)
index_is xs ys k same within = slice_get-get_or xs k 0 within ∙ ap (λ zs. Some (slice_index_or zs k 0)) (sym same)

-- what holds below a number and at it holds below the next
pub below_next : (P : ℕ → Type 0) (n : ℕ) → ((j : ℕ) → j < n → P j) → P n → (j : ℕ) → j < n + 1 → P j
below_next P n before here j lt = by_less (ltb j n) refl
  where
    by_less : (b : Bool) → ltb j n ≡ b → P j
    by_less true less = let l : j < n = grind (arith, nat_tests) in before j l
    by_less false more = let g : n ≤ j = grind (arith, nat_tests) in let same : n ≡ j = omega (arith, g, lt) in subst P same here
