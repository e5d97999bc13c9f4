-- A search from below finds the lowest.
use Rattle.std.proofs.Common.{◌≡◌, ℕ, zero, suc, ◌<◌, ◌≤◌, Bool, true, false, cond, ◌⊎◌, inl, inr, Option, Some, None}
use Rattle.std.proofs.Common.{List, refl, ap, ◌∙◌, sym, arith, ◌++◌, append-nil}
use Rattle.std.specs.Option.{option_or}
use Rattle.std.specs.Prelude.{option_to_list}
use Rattle.irq_hotplug.specs.Held.{HeldSeen}
use Rattle.vector_matrix.specs.Vectors.{vector_of}
use Rattle.vector_matrix.specs.declared.view.Vector.{Vector}
use Rattle.irq_hotplug.specs.Placing.{lowest_free, first_free}

below_or_at : (n m : ℕ) → n < suc m → (n < m) ⊎ (n ≡ m)
below_or_at n m lt = grind arith

pub none_free : (taken : Vector → Bool) (cpu n : ℕ) → ((u : ℕ) → u < n → taken (vector_of (record { 0 = cpu }) u) ≡ true) → lowest_free taken cpu n ≡ None
none_free taken cpu zero full = refl
none_free taken cpu (suc n) full =
    ap (λ p. option_or p (cond (taken (vector_of (record { 0 = cpu }) n)) None (Some (vector_of (record { 0 = cpu }) n))))
    (none_free taken cpu n (λ u lt. full u (omega (arith, lt))))
    ∙ ap (λ t. cond t None (Some (vector_of (record { 0 = cpu }) n))) (full n (omega arith))

pub lowest_is : (taken : Vector → Bool) (cpu n vectors : ℕ) → n < vectors
    → ((u : ℕ) → u < n → taken (vector_of (record { 0 = cpu }) u) ≡ true) → taken (vector_of (record { 0 = cpu }) n) ≡ false
    → lowest_free taken cpu vectors ≡ Some (vector_of (record { 0 = cpu }) n)
lowest_is taken cpu n zero lt full free = absurd (omega (arith, lt))
lowest_is taken cpu n (suc vectors) lt full free =
    elim (below_or_at n vectors lt) [
      | inl below ↦ ap (λ p. option_or p (cond (taken (vector_of (record { 0 = cpu }) vectors)) None (Some (vector_of (record { 0 = cpu }) vectors))))
          (lowest_is taken cpu n vectors below full free)
      | inr same ↦
          let at : Option Vector → Option Vector = λ p. option_or p (cond (taken (vector_of (record { 0 = cpu }) vectors)) None
          (Some (vector_of (record { 0 = cpu }) vectors))) in
          ap at (none_free taken cpu vectors (λ u below. full u (omega (arith, same, below))))
          ∙ ap (λ k. cond (taken (vector_of (record { 0 = cpu }) k)) None (Some (vector_of (record { 0 = cpu }) k))) (sym same)
          ∙ ap (λ t. cond t None (Some (vector_of (record { 0 = cpu }) n))) free
    ]

-- a vector that is found is found by each longer search
pub found_stays : (taken : Vector → Bool) (vectors : ℕ) (asked : ℕ → Bool) (c n : ℕ) (v : Vector) → c ≤ n
    → first_free taken vectors asked c ≡ Some v → first_free taken vectors asked n ≡ Some v
found_stays taken vectors asked c zero v le is =
    let e : zero ≡ c = omega (arith, le) in
    ap (first_free taken vectors asked) e ∙ is
found_stays taken vectors asked c (suc n) v le is =
    elim (le_or c n le) [
      | inl less ↦ ap (λ p. option_or p (cond (asked n) (lowest_free taken n vectors) None)) (found_stays taken vectors asked c n v less is)
      | inr same ↦ ap (first_free taken vectors asked) (sym same) ∙ is
    ]
  where
    le_or : (c n : ℕ) → c ≤ suc n → (c ≤ n) ⊎ (c ≡ suc n)
    le_or c n le = grind arith

-- a processor that isn't asked, or that has none, changes nothing
pub none_more : (taken : Vector → Bool) (vectors : ℕ) (asked : ℕ → Bool) (c : ℕ) → first_free taken vectors asked c ≡ None
    → first_free taken vectors asked (suc c) ≡ cond (asked c) (lowest_free taken c vectors) None
none_more taken vectors asked c none = ap (λ p. option_or p (cond (asked c) (lowest_free taken c vectors) None)) none

-- nothing more is held if nothing was taken
pub held_still : (old new : HeldSeen) (p : Option Vector) → new ≡ record old { held = old.held ++ option_to_list p } → p ≡ None → new ≡ old
held_still old new p is none =
    let with_held : List Vector → HeldSeen = λ held. record old { held = held } in
    is ∙ ap (λ q. with_held (old.held ++ option_to_list q)) none ∙ ap with_held (append-nil old.held)
