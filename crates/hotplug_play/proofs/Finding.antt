-- What lines find was taken by none.
use Rattle.std.proofs.Common.{◌≡◌, ℕ, ◌+◌, ◌≤◌, Bool, true, false, cond, ◌||◌, Option, Some, None, List, [], ◌∷◌, ◌++◌}
use Rattle.std.proofs.Common.{count_by, refl, ap, ◌∙◌, sym, arith}
use Rattle.std.specs.List.{list_any}
use Rattle.std.proofs.lemmas.Bool.{ltb-false}
use Rattle.vector_matrix.specs.Vectors.{same_vector}
use Rattle.vector_matrix.specs.declared.view.Vector.{Vector}
use Rattle.vector_matrix.proofs.Listing.{from_same}
use Rattle.irq_hotplug.specs.Berths.{all_found, finds, is_at, is_moved, is_taken, stands_at}
use Rattle.irq_hotplug.specs.Placing.{place_for}
use Rattle.irq_hotplug.specs.declared.berths.Berth.{Berth}
use Rattle.irq_hotplug.specs.declared.berths.Moving.{Moving}
use Rattle.irq_hotplug.proofs.Counting.{any_counts, count_put}
use Rattle.irq_hotplug.proofs.FirstPlace.{places_first}

some_is : (w v : Vector) → Some w ≡ Some v → w ≡ v
some_is w v is = cc

none_first : (s t : Bool) → (s || t) ≡ false → s ≡ false
none_first false t none = refl
none_first true t none = none

none_second : (s t : Bool) → (s || t) ≡ false → t ≡ false
none_second false t none = none
none_second true t none = absurd cc

none_counted : {A : Type 0} (p : A → Bool) (xs : List A) → list_any p xs ≡ false → count_by p xs ≤ 0
none_counted p xs none = ltb-false 0 (count_by p xs) (sym (any_counts p xs) ∙ none)

-- each vector is had by one line, or found once
abbrev pub AreOnce : List Berth → List (Option Vector) → Type 0
AreOnce berths found = (v : Vector) → count_by (stands_at v) berths + count_by (is_at v) found ≤ 1

free_is : (m : Moving) (vectors : ℕ) (online : List Bool) (taken : Vector → Bool) (x : Berth) (w : Vector)
    → finds m vectors online taken x ≡ Some w → taken w ≡ false
free_is m vectors online taken x w is = by (is_moved m x) is
  where
    by : (t : Bool) → cond t (place_for taken vectors online x.mask) None ≡ Some w → taken w ≡ false
    by true at = ((places_first taken vectors online x.mask).placed w at).free
    by false at = absurd cc

put_once : (berths : List Berth) (found : List (Option Vector)) (p : Option Vector)
    → ((w : Vector) → p ≡ Some w → is_taken berths found w ≡ false) → AreOnce berths found → AreOnce berths (found ++ p ∷ [])
put_once berths found None free once v = omega (arith, count_put (is_at v) found None, once v)
put_once berths found (Some w) free once v = by (same_vector v w) refl
  where
    none : is_taken berths found w ≡ false
    none = free w refl

    by : (t : Bool) → same_vector v w ≡ t → count_by (stands_at v) berths + count_by (is_at v) (found ++ Some w ∷ []) ≤ 1
    by true same =
        let e : v ≡ w = from_same v w same in
        let had : count_by (stands_at v) berths ≤ 0 =
        none_counted (stands_at v) berths (ap (λ u. list_any (stands_at u) berths) e
        ∙ none_first (list_any (stands_at w) berths) (list_any (is_at w) found) none) in
        let found_it : count_by (is_at v) found ≤ 0 =
        none_counted (is_at v) found (ap (λ u. list_any (is_at u) found) e ∙ none_second (list_any (stands_at w) berths) (list_any (is_at w) found) none) in
        let more = count_put (is_at v) found (Some w) ∙ ap (λ t. count_by (is_at v) found + cond t 1 0) same in
        omega (arith, had, found_it, more)
    by false other =
        let more = count_put (is_at v) found (Some w) ∙ ap (λ t. count_by (is_at v) found + cond t 1 0) other in
        omega (arith, once v, more)

pub found_once : (m : Moving) (vectors : ℕ) (online : List Bool) (berths : List Berth) (before : List (Option Vector)) (bs : List Berth)
    → AreOnce berths before → AreOnce berths (all_found m vectors online berths before bs)
found_once m vectors online berths before [] once = once
found_once m vectors online berths before (x ∷ xs) once =
    let p = finds m vectors online (is_taken berths before) x in
    found_once m vectors online berths (before ++ p ∷ []) xs (put_once berths before p (free_is m vectors online (is_taken berths before) x) once)
