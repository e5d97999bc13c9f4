-- Lists by their places.
use Rattle.std.proofs.Common.{◌≡◌, ◌≤◌, ◌<◌, ℕ, zero, suc, ◌⊎◌, inl, inr, Some, List, [], ◌∷◌, ◌++◌, map, length, take}
use Rattle.std.proofs.Common.{get_or, slice_get, All, Contains, refl, ap, sym, subst, ◌∙◌, arith}
use Rattle.std.proofs.lemmas.Option.{slice_get_within, slice_get-get_or, get_or_from_slice_get, none-some}

module _ {X : Type 0} where
  pub same_some : (x y : X) → Some x ≡ Some y → x ≡ y
  same_some x y e = cc

  pub one_at : (xs : List X) (k : ℕ) (x y : X) → slice_get xs k ≡ Some x → slice_get xs k ≡ Some y → x ≡ y
  one_at xs k x y a b = same_some x y (sym a ∙ b)

  -- one more item: it is an old one, or the new one
  pub push_cases : (xs : List X) (y x : X) (k : ℕ) → slice_get (xs ++ y ∷ []) k ≡ Some x → (slice_get xs k ≡ Some x) ⊎ ((k ≡ length xs) × (y ≡ x))
  push_cases [] y x zero e = inr (refl, same_some y x e)
  push_cases [] y x (suc k) e = absurd (none-some x e)
  push_cases (z ∷ xs) y x zero e = inl e
  push_cases (z ∷ xs) y x (suc k) e = elim (push_cases xs y x k e) [ inl h ↦ inl h | inr h ↦ inr (ap suc h.0, h.1) ]

  -- an item of two lists is in the first, or behind it in the second
  pub append_cases : (xs ys : List X) (x : X) (k : ℕ) → slice_get (xs ++ ys) k ≡ Some x
      → (slice_get xs k ≡ Some x) ⊎ ((length xs ≤ k) × (j : ℕ) × (slice_get ys j ≡ Some x))
  append_cases [] ys x k e = inr (omega arith, k, e)
  append_cases (z ∷ xs) ys x zero e = inl e
  append_cases (z ∷ xs) ys x (suc k) e = elim (append_cases xs ys x k e) [ inl h ↦ inl h | inr h ↦ inr (omega arith, h.1, h.2) ]

  pub at_old : (xs ys : List X) (k : ℕ) (x : X) → slice_get xs k ≡ Some x → slice_get (xs ++ ys) k ≡ Some x
  at_old [] ys k x e = absurd (none-some x e)
  at_old (z ∷ xs) ys zero x e = e
  at_old (z ∷ xs) ys (suc k) x e = at_old xs ys k x e

  pub at_seam : (xs : List X) (y : X) (ys : List X) → slice_get (xs ++ y ∷ ys) (length xs) ≡ Some y
  at_seam [] y ys = refl
  at_seam (z ∷ xs) y ys = at_seam xs y ys

  pub at_take : (n : ℕ) (xs : List X) (k : ℕ) (x : X) → k < n → slice_get xs k ≡ Some x → slice_get (take n xs) k ≡ Some x
  at_take zero xs k x l e = absurd (omega arith)
  at_take (suc n) [] k x l e = absurd (none-some x e)
  at_take (suc n) (z ∷ xs) zero x l e = e
  at_take (suc n) (z ∷ xs) (suc k) x l e = at_take n xs k x (omega arith) e

  -- there is an item at each place below the length
  pub there : (xs : List X) (k : ℕ) → k < length xs → (x : X) × (slice_get xs k ≡ Some x)
  there [] k l = absurd (omega arith)
  there (x ∷ xs) zero l = (x, refl)
  there (x ∷ xs) (suc k) l = there xs k (omega arith)

  pub all_from : (P : X → Type 0) (xs : List X) → ((k : ℕ) (x : X) → slice_get xs k ≡ Some x → P x) → All P xs
  all_from P xs h = λ k d l. h k (get_or xs k d) (slice_get-get_or xs k d l)

  pub all_at : (P : X → Type 0) (xs : List X) (k : ℕ) (x : X) → All P xs → slice_get xs k ≡ Some x → P x
  all_at P xs k x h e = subst P (get_or_from_slice_get xs k x x e) (h k x (slice_get_within xs k x e))

  pub contains_from : (xs : List X) (k : ℕ) (x : X) → slice_get xs k ≡ Some x → Contains xs x
  contains_from xs k x e = (k, slice_get_within xs k x e, get_or_from_slice_get xs k x x e)

  pub contains_at : (xs : List X) (x : X) → Contains xs x → (k : ℕ) × (slice_get xs k ≡ Some x)
  contains_at xs x c = (c.0, slice_get-get_or xs c.0 x c.1 ∙ ap Some c.2)

module _ {X Y : Type 0} (f : X → Y) where
  pub map_at : (xs : List X) (k : ℕ) (x : X) → slice_get xs k ≡ Some x → slice_get (map f xs) k ≡ Some (f x)
  map_at [] k x e = absurd (none-some x e)
  map_at (z ∷ xs) zero x e = ap (λ t. Some (f t)) (same_some z x e)
  map_at (z ∷ xs) (suc k) x e = map_at xs k x e

  pub map_from : (xs : List X) (k : ℕ) (y : Y) → slice_get (map f xs) k ≡ Some y → (x : X) × (slice_get xs k ≡ Some x) × (f x ≡ y)
  map_from [] k y e = absurd (none-some y e)
  map_from (z ∷ xs) zero y e = (z, refl, same_some (f z) y e)
  map_from (z ∷ xs) (suc k) y e = map_from xs k y e
