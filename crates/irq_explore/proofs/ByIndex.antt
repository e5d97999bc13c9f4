-- Rows by their places.
use Rattle.std.proofs.Common.{◌≡◌, ℕ, zero, suc, ◌+◌, ◌<◌, Some, All, List, [], ◌∷◌, length, take, get_or, slice_get, refl, sym, subst, arith}
use Rattle.std.proofs.lemmas.List.{take_more}
use Rattle.std.proofs.lemmas.List.Elements.{All-push}

-- the item at an index
pub at_index : {X : Type 0} (xs : List X) (i : ℕ) (d : X) → i < length xs → slice_get xs i ≡ Some (get_or xs i d)
at_index [] i d within = absurd (omega (arith, within))
at_index (x ∷ xs) zero d within = refl
at_index (x ∷ xs) (suc i) d within = at_index xs i d (omega (arith, within))

-- what holds of the first items and of the next one
pub more_of : {X : Type 0} (P : X → Type 0) (xs : List X) (i : ℕ) (d : X) → i < length xs → All P (take i xs) → P (get_or xs i d) → All P (take (i + 1) xs)
more_of P xs i d within all it = subst (All P) (sym (take_more xs i d within)) (All-push P (take i xs) (get_or xs i d) all it)
