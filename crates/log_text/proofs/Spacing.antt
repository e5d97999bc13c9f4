-- Words and the spaces between them.
use Rattle.std.proofs.Common.{◌≡◌, ℕ, ◌+◌, List, [], ◌∷◌, ◌++◌, Some, map, take, slice_get, sym, ap, ◌∙◌}
use Rattle.std.specs.List.{join_with_byte}
use Rattle.std.proofs.lemmas.Grind.{flat_map-append}
use Rattle.std.proofs.lemmas.List.{append-nil, map_more}
use Rattle.std.proofs.lemmas.Option.{slice_get_within, get_or_from_slice_get}
use Rattle.log_text.specs.Spaced.{spaced}

-- words with a space between each two: the first, and the others each with a space before it
pub joined : (word : List ℕ) (words : List (List ℕ)) → join_with_byte 32 (word ∷ words) ≡ word ++ spaced words
joined word [] = sym (append-nil word)
joined word (next ∷ words) = ap (λ rest. word ++ (32 ∷ rest)) (joined next words)

-- one more word
pub spaced_more : {X : Type 0} (f : X → List ℕ) (xs : List X) (i : ℕ) (x : X) → slice_get xs i ≡ Some x
    → spaced (map f (take (i + 1) xs)) ≡ spaced (map f (take i xs)) ++ spaced (f x ∷ [])
spaced_more f xs i x at =
    ap spaced (map_more f xs i x (slice_get_within xs i x at) ∙ ap (λ y. map f (take i xs) ++ f y ∷ []) (get_or_from_slice_get xs i x x at))
    ∙ flat_map-append (λ word. 32 ∷ word) (map f (take i xs)) (f x ∷ [])

pub spaced_two : (a b : List ℕ) (words : List (List ℕ)) → spaced (a ∷ []) ++ (spaced (b ∷ []) ++ spaced words) ≡ spaced (a ∷ b ∷ words)
spaced_two a b words =
    sym (flat_map-append (λ word. 32 ∷ word) (a ∷ []) (b ∷ words) ∙ ap (λ text. spaced (a ∷ []) ++ text) (flat_map-append (λ word. 32 ∷ word) (b ∷ []) words))
