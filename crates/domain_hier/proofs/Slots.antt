-- Places and virqs.
use Rattle.std.proofs.Common.{◌≡◌, ◌≢◌, ℕ, zero, suc, ◌+◌, ◌-◌, ◌<◌, ◌≤◌, Option, Some, None, List, [], ◌∷◌, ◌++◌}
use Rattle.std.proofs.Common.{length, drop, refl, sym, ap, ◌∙◌, add-one, arith}
use Rattle.std.proofs.Math.ListN.{set}
use Rattle.domain_hier.specs.PathsInUse.{slot, path_in, first_free, placed, in_use_from}

abbrev pub Paths : Type 0
Paths = List (Option (List (ℕ × ℕ)))

pub place_at_end : (paths : Paths) (new : List (ℕ × ℕ)) → length paths ≤ first_free paths → placed paths new ≡ paths ++ Some new ∷ []
place_at_end [] new e = refl
place_at_end (None ∷ paths) new e = absurd (omega (arith, e))
place_at_end (Some path ∷ paths) new e = ap (λ ps. Some path ∷ ps) (place_at_end paths new (omega (arith, e)))

pub place_within : (paths : Paths) (new : List (ℕ × ℕ)) (n : ℕ) → n ≡ first_free paths → n < length paths → set paths n (Some new) ≡ placed paths new
place_within [] new n e within = absurd (omega (arith, within))
place_within (None ∷ paths) new zero e within = refl
place_within (None ∷ paths) new (suc n) e within = absurd (omega (arith, e))
place_within (Some path ∷ paths) new zero e within = absurd (omega (arith, e))
place_within (Some path ∷ paths) new (suc n) e within = ap (λ ps. Some path ∷ ps) (place_within paths new n (omega (arith, e)) (omega (arith, within)))

-- none before the place that was taken is free
pub free_after : (paths : Paths) (new : List (ℕ × ℕ)) (n : ℕ) → n ≡ first_free paths
    → first_free (drop n (placed paths new)) + n ≡ first_free (placed paths new)
free_after [] new zero e = refl
free_after [] new (suc n) e = absurd (omega (arith, e))
free_after (None ∷ paths) new zero e = omega arith
free_after (None ∷ paths) new (suc n) e = absurd (omega (arith, e))
free_after (Some path ∷ paths) new zero e = absurd (omega (arith, e))
free_after (Some path ∷ paths) new (suc n) e = omega (arith, free_after paths new n (omega (arith, e)))

pub free_if_lower : (paths : Paths) (n : ℕ) → n < first_free paths → first_free (set paths n None) ≡ n
free_if_lower [] n e = absurd (omega (arith, e))
free_if_lower (None ∷ paths) n e = absurd (omega (arith, e))
free_if_lower (Some path ∷ paths) zero e = refl
free_if_lower (Some path ∷ paths) (suc n) e = omega (arith, free_if_lower paths n (omega (arith, e)))

pub free_as_before : (paths : Paths) (n : ℕ) → first_free paths ≤ n → first_free (set paths n None) ≡ first_free paths
free_as_before [] n e = refl
free_as_before (None ∷ paths) zero e = refl
free_as_before (None ∷ paths) (suc n) e = refl
free_as_before (Some path ∷ paths) zero e = absurd (omega (arith, e))
free_as_before (Some path ∷ paths) (suc n) e = omega (arith, free_as_before paths n (omega (arith, e)))

-- ---- what stands where

pub free_slot : (paths : Paths) → slot paths (first_free paths) ≡ None
free_slot [] = refl
free_slot (None ∷ paths) = refl
free_slot (Some path ∷ paths) = ap (slot (Some path ∷ paths)) (add-one (first_free paths)) ∙ free_slot paths

pub placed_here : (paths : Paths) (new : List (ℕ × ℕ)) → slot (placed paths new) (first_free paths) ≡ Some new
placed_here [] new = refl
placed_here (None ∷ paths) new = refl
placed_here (Some path ∷ paths) new = ap (slot (Some path ∷ placed paths new)) (add-one (first_free paths)) ∙ placed_here paths new

pub placed_elsewhere : (paths : Paths) (new : List (ℕ × ℕ)) (i : ℕ) → i ≢ first_free paths → slot (placed paths new) i ≡ slot paths i
placed_elsewhere [] new zero other = absurd (other refl)
placed_elsewhere [] new (suc i) other = refl
placed_elsewhere (None ∷ paths) new zero other = absurd (other refl)
placed_elsewhere (None ∷ paths) new (suc i) other = refl
placed_elsewhere (Some path ∷ paths) new zero other = refl
placed_elsewhere (Some path ∷ paths) new (suc i) other = placed_elsewhere paths new i (λ e. other (ap suc e ∙ sym (add-one (first_free paths))))

-- at least the virqs before the first free one are in use
pub free_few : (n : ℕ) (paths : Paths) → first_free paths ≤ length (in_use_from n paths)
free_few n [] = omega arith
free_few n (None ∷ paths) = omega arith
free_few n (Some path ∷ paths) = omega (arith, free_few (n + 1) paths)

pub virq_slot : (paths : Paths) (virq : ℕ) (path : List (ℕ × ℕ)) → path_in paths virq ≡ Some path → slot paths (virq - 1) ≡ Some path
virq_slot paths zero path e = absurd cc
virq_slot paths (suc i) path e = let before : suc i - 1 ≡ i = omega arith in ap (slot paths) before ∙ e

pub placed_count : (n : ℕ) (paths : Paths) (new : List (ℕ × ℕ)) → length (in_use_from n (placed paths new)) ≡ length (in_use_from n paths) + 1
placed_count n [] new = refl
placed_count n (None ∷ paths) new = omega arith
placed_count n (Some path ∷ paths) new = omega (arith, placed_count (n + 1) paths new)

pub set_count : (n i : ℕ) (paths : Paths) → length (in_use_from n (set paths i None)) ≤ length (in_use_from n paths)
set_count n i [] = omega arith
set_count n zero (None ∷ paths) = omega arith
set_count n zero (Some path ∷ paths) = omega arith
set_count n (suc i) (None ∷ paths) = omega (arith, set_count (n + 1) i paths)
set_count n (suc i) (Some path ∷ paths) = omega (arith, set_count (n + 1) i paths)
