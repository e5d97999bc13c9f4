-- What a word stands for, and what one more wide entry makes of that.
use Rattle.std.specs.Prelude.{All}
use Rattle.std.proofs.Common.{◌≡◌, ℕ, ◌+◌, ◌<◌, Bool, true, false, refl, sym, ap, ◌∙◌, arith, List, [], ◌∷◌, ◌++◌, length, get_or, map}
use Rattle.std.proofs.Math.ListN.{get_or-append}
use Rattle.std.proofs.Math.Seq.{get_or-append_seam}
use Rattle.std.proofs.lemmas.List.{map-append}
use Rattle.std.proofs.lemmas.List.Elements.{All-head, All-tail, All-push, All-weaker}
use Rattle.irq_base.specs.declared.entries.Entry.{Entry}
use Rattle.irq_base.specs.declared.packed.Packed.{Packed}
use Rattle.irq_base.specs.Packed.{parts_of, entry_of, is_wide, place_of, unpack, nothing, IsPlaced}

pub unpack-narrow : (wide : List Entry) (w : Packed) → is_wide w ≡ false → unpack wide w ≡ entry_of (parts_of w)
unfolding unpack
unpack-narrow wide w h = rw h

pub unpack-wide : (wide : List Entry) (w : Packed) → is_wide w ≡ true → unpack wide w ≡ get_or wide (place_of w) nothing
unfolding unpack
unpack-wide wide w h = rw h

-- by whether a word is wide
by_kind : (b : Bool) (wide : List Entry) (e : Entry) (w : Packed) → is_wide w ≡ b → IsPlaced (length wide) w
    → unpack (wide ++ e ∷ []) w ≡ unpack wide w
by_kind false wide e w h placed = unpack-narrow (wide ++ e ∷ []) w h ∙ sym (unpack-narrow wide w h)
by_kind true wide e w h placed =
    unpack-wide (wide ++ e ∷ []) w h
    ∙ (get_or-append wide (e ∷ []) nothing (place_of w) (placed h) ∙ sym (unpack-wide wide w h))

pub unpacked-grown : (wide : List Entry) (e : Entry) (words : List Packed) → All (IsPlaced (length wide)) words
    → map (unpack (wide ++ e ∷ [])) words ≡ map (unpack wide) words
unpacked-grown wide e [] h = refl
unpacked-grown wide e (w ∷ words) h =
    let here : unpack (wide ++ e ∷ []) w ≡ unpack wide w = by_kind (is_wide w) wide e w refl (All-head (IsPlaced (length wide)) w words h) in
    let others : map (unpack (wide ++ e ∷ [])) words ≡ map (unpack wide) words = unpacked-grown wide e words (All-tail (IsPlaced (length wide)) w words h) in
    ap (λ x. x ∷ map (unpack (wide ++ e ∷ [])) words) here ∙ ap (λ xs. unpack wide w ∷ xs) others

-- one more narrow word
pub unpacked-narrow : (wide : List Entry) (e : Entry) (w : Packed) (words : List Packed) → unpack wide w ≡ e
    → map (unpack wide) (words ++ w ∷ []) ≡ map (unpack wide) words ++ e ∷ []
unpacked-narrow wide e w words h = map-append (unpack wide) words (w ∷ []) ∙ ap (λ x. map (unpack wide) words ++ x ∷ []) h

-- one more wide entry, and its word
pub unpacked-wide : (wide : List Entry) (e : Entry) (w : Packed) (words : List Packed) → All (IsPlaced (length wide)) words
    → is_wide w ≡ true → place_of w ≡ length wide
    → map (unpack (wide ++ e ∷ [])) (words ++ w ∷ []) ≡ map (unpack wide) words ++ e ∷ []
unpacked-wide wide e w words h is_so there =
    let new : unpack (wide ++ e ∷ []) w ≡ e =
    unpack-wide (wide ++ e ∷ []) w is_so
    ∙ (ap (λ k. get_or (wide ++ e ∷ []) k nothing) there ∙ get_or-append_seam wide e [] nothing) in
    unpacked-narrow (wide ++ e ∷ []) e w words new
    ∙ ap (λ (xs : List Entry). xs ++ e ∷ []) (unpacked-grown wide e words h)

within : (k n : ℕ) → k < n → k < n + 1
within k n h = omega arith

-- the places stay within the list
pub placed-narrow : (n : ℕ) (w : Packed) (words : List Packed) → All (IsPlaced n) words → is_wide w ≡ false
    → All (IsPlaced n) (words ++ w ∷ [])
placed-narrow n w words h is_not = All-push (IsPlaced n) words w h (λ so. cc)

pub placed-wide : (n : ℕ) (w : Packed) (words : List Packed) → All (IsPlaced n) words → place_of w ≡ n
    → All (IsPlaced (n + 1)) (words ++ w ∷ [])
placed-wide n w words h there =
    All-push (IsPlaced (n + 1)) words w (All-weaker (IsPlaced n) (IsPlaced (n + 1))
    (λ x before so. within (place_of x) n (before so)) words h) (λ so. omega arith)
