-- Lists that are walked by their places.
use Rattle.std.proofs.Common.{◌≡◌, ℕ, suc, ◌+◌, ◌<◌, Bool, true, false, cond, Some, List, [], ◌∷◌, ◌++◌, length, take}
use Rattle.std.proofs.Common.{drop, refl, sym, ap, ◌∙◌, add-one, drop-cons}
use Rattle.std.specs.List.{slice_get}
use Rattle.std.proofs.lemmas.Option.{slice_get_within, get_or_from_slice_get}
use Rattle.std.proofs.lemmas.List.{take-append-drop, append_cancel_right}
use Rattle.irq_model.specs.Places.{since_place, upto_place}

-- what is left from a place on begins with the item there
pub next_item : {A : Type 0} (xs : List A) (i : ℕ) (x : A) → slice_get xs i ≡ Some x → drop i xs ≡ x ∷ drop (i + 1) xs
next_item xs i x e =
    let within : i < length xs = slice_get_within xs i x e in
    drop-cons xs i x within ∙ (ap (λ y. y ∷ drop (suc i) xs) (get_or_from_slice_get xs i x x e) ∙ ap (λ n. x ∷ drop n xs) (sym (add-one i)))

-- what stands after a place and up to it is all
since-append-upto : {A : Type 0} (p : List A → Bool) (xs : List A) → since_place p xs ++ upto_place p xs ≡ xs
since-append-upto p [] = refl
since-append-upto p (x ∷ xs) =
    elim (p (x ∷ xs)) as (λ b. cond b [] (x ∷ since_place p xs) ++ cond b (x ∷ xs) (upto_place p xs) ≡ x ∷ xs) [
      | true ↦ refl
      | false ↦ ap (λ ys. x ∷ ys) (since-append-upto p xs)
    ]

-- so the one follows from the other
pub since_from_upto : {A : Type 0} (p : List A → Bool) (xs : List A) (k : ℕ) → upto_place p xs ≡ drop k xs → since_place p xs ≡ take k xs
since_from_upto p xs k e =
    append_cancel_right (since_place p xs) (take k xs) (drop k xs)
    (ap (λ ys. since_place p xs ++ ys) (sym e) ∙ (since-append-upto p xs ∙ sym (take-append-drop k xs)))
