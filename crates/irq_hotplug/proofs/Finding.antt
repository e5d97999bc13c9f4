-- What a line finds depends only on which vectors are taken.
use Rattle.std.proofs.Common.{◌≡◌, ℕ, zero, suc, Bool, true, false, cond, Some, None, List, length, refl, ap, ◌∙◌}
use Rattle.std.specs.Option.{option_or}
use Rattle.vector_matrix.specs.Vectors.{vector_of}
use Rattle.vector_matrix.specs.declared.view.Vector.{Vector}
use Rattle.irq_hotplug.specs.Placing.{lowest_free, first_free, is_asked, place_for}
use Rattle.irq_hotplug.specs.Berths.{finds, is_moved}
use Rattle.irq_hotplug.specs.declared.berths.Berth.{Berth}
use Rattle.irq_hotplug.specs.declared.berths.Moving.{Moving}

same_lowest : (t u : Vector → Bool) → ((v : Vector) → t v ≡ u v) → (cpu n : ℕ) → lowest_free t cpu n ≡ lowest_free u cpu n
same_lowest t u same cpu zero = refl
same_lowest t u same cpu (suc n) =
    ap (λ p. option_or p (cond (t (vector_of (record { 0 = cpu }) n)) None (Some (vector_of (record { 0 = cpu }) n)))) (same_lowest t u same cpu n)
    ∙ ap (λ x. option_or (lowest_free u cpu n) (cond x None (Some (vector_of (record { 0 = cpu }) n)))) (same (vector_of (record { 0 = cpu }) n))

same_first : (t u : Vector → Bool) → ((v : Vector) → t v ≡ u v) → (vectors : ℕ) (asked : ℕ → Bool) (n : ℕ)
    → first_free t vectors asked n ≡ first_free u vectors asked n
same_first t u same vectors asked zero = refl
same_first t u same vectors asked (suc n) =
    ap (λ p. option_or p (cond (asked n) (lowest_free t n vectors) None)) (same_first t u same vectors asked n)
    ∙ ap (λ p. option_or (first_free u vectors asked n) (cond (asked n) p None)) (same_lowest t u same n vectors)

same_place : (t u : Vector → Bool) → ((v : Vector) → t v ≡ u v) → (vectors : ℕ) (online : List Bool) (mask : ℕ)
    → place_for t vectors online mask ≡ place_for u vectors online mask
same_place t u same vectors online mask =
    ap (λ p. option_or p (first_free t vectors (is_asked online mask false) (length online)))
    (same_first t u same vectors (is_asked online mask true) (length online))
    ∙ ap (λ p. option_or (first_free u vectors (is_asked online mask true) (length online)) p)
    (same_first t u same vectors (is_asked online mask false) (length online))

pub same_find : (t u : Vector → Bool) → ((v : Vector) → t v ≡ u v) → (moving : Moving) (vectors : ℕ) (online : List Bool) (b : Berth)
    → finds moving vectors online t b ≡ finds moving vectors online u b
same_find t u same moving vectors online b =
    ap (λ p. cond (is_moved moving b) p None) (same_place t u same vectors online b.mask)
