-- What a list has left from a place on.
use Rattle.std.proofs.Common.{◌≡◌, ℕ, zero, suc, ◌+◌, ◌<◌, Bool, true, false, cond, Some, None, List, [], ◌∷◌, ◌++◌, drop, length}
use Rattle.std.proofs.Common.{add-one, append_assoc, sym, ap, ◌∙◌, arith}
use Rattle.std.specs.List.{slice_get, list_any, flat_map}
use Rattle.irq_model.specs.Places.{count_of}

pub left_at : {A : Type 0} (xs : List A) (i : ℕ) (x : A) → slice_get xs i ≡ Some x → drop i xs ≡ x ∷ drop (i + 1) xs
left_at [] i x at = cc
left_at (y ∷ ys) zero x at = grind arith
left_at (y ∷ ys) (suc i) x at = rw (add-one (suc i)) (rw (add-one i) at (left_at ys i x at))

-- a place below the length has an item
pub item_there : {A : Type 0} (xs : List A) (i : ℕ) → slice_get xs i ≡ None → i < length xs → ⊥
item_there [] i none within = omega arith
item_there (y ∷ ys) zero none within = cc
item_there (y ∷ ys) (suc i) none within = item_there ys i none (omega arith)

-- past an item that fails the test
pub any_left : {A : Type 0} (p : A → Bool) (xs : List A) (i : ℕ) (x : A) → slice_get xs i ≡ Some x → p x ≡ false
    → list_any p (drop i xs) ≡ list_any p (drop (i + 1) xs)
any_left p xs i x at fails = rw (left_at xs i x at) (grind arith)

-- past an item that is mapped to some
pub mapped_more : {A B : Type 0} (f : A → List B) (xs : List A) (i : ℕ) (x : A) (done more : List B) {whole : List B}
    → slice_get xs i ≡ Some x → done ++ flat_map f (drop i xs) ≡ whole → more ≡ done ++ f x → more ++ flat_map f (drop (i + 1) xs) ≡ whole
mapped_more f xs i x done more at left is =
    ap (λ ys. ys ++ flat_map f (drop (i + 1) xs)) is
    ∙ (append_assoc done (f x) (flat_map f (drop (i + 1) xs)) ∙ (ap (λ ys. done ++ flat_map f ys) (sym (left_at xs i x at)) ∙ left))

-- an item that is counted, or isn't
pub counted_more : {A : Type 0} (p : A → Bool) (xs : List A) (i n : ℕ) (x : A) {whole : ℕ} → slice_get xs i ≡ Some x → n + count_of p (drop i xs) ≡ whole
    → n + cond (p x) 1 0 + count_of p (drop (i + 1) xs) ≡ whole
counted_more p xs i n x {whole} at left = by (p x) (ap (λ ys. n + count_of p ys) (sym (left_at xs i x at)) ∙ left)
  where
    by : (b : Bool) → n + cond b (count_of p (drop (i + 1) xs) + 1) (count_of p (drop (i + 1) xs)) ≡ whole
        → n + cond b 1 0 + count_of p (drop (i + 1) xs) ≡ whole
    by true h = omega (arith, h)
    by false h = omega (arith, h)
