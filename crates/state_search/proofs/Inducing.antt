-- The induction of the search: each path leads to a state that was met at no greater length, or
-- there is one that wasn't looked at and is nearer.
use Rattle.std.proofs.Common.{◌≡◌, ◌≤◌, ◌<◌, ℕ, suc, ◌⊎◌, inl, inr, Some, List, [], ◌∷◌, length, slice_get, refl, sym, arith}
use Rattle.std.proofs.lemmas.Bool.{cases_lt}
use Rattle.state_search.specs.Paths.{IsPath}
use Rattle.state_search.specs.Steps.{AreUnder}

module _ {L : Type 0} (can : L → List L → Type 0) (node : List L → List ℕ) where
  abbrev pub IsMet : List (List L) → List L → Type 0
  IsMet ps g = (k : ℕ) × (p : List L) × (slice_get ps k ≡ Some p) × (node p ≡ node g) × (length p ≤ length g)

  abbrev pub HasOpen : ℕ → List (List L) → ℕ → Type 0
  HasOpen i ps n = (k : ℕ) × (p : List L) × (i ≤ k) × (slice_get ps k ≡ Some p) × (length p < n)

  module _ (i : ℕ) (ps : List (List L)) (u : AreUnder can node i ps) where
    pub met : (g : List L) → IsPath can g → IsMet ps g ⊎ HasOpen i ps (length g)
    met [] h = inl (0, [], u.start, refl, omega arith)
    met (l ∷ g) h = next (met g h.1)
      where
        known : (m : IsMet ps g) → (m.0 < i) ⊎ (i ≤ m.0) → IsMet ps (l ∷ g) ⊎ HasOpen i ps (suc (length g))
        known m (inl lt) =
            let c = u.closed m.0 m.1 lt m.2 g l h.1 (sym m.3) h.0 in
            let short : length c.1 ≤ suc (length g) = omega (arith, c.4, m.4) in
            inl (c.0, c.1, c.2, c.3, short)
        known m (inr ge) =
            let near : length m.1 < suc (length g) = omega (arith, m.4) in
            inr (m.0, m.1, ge, m.2, near)

        next : IsMet ps g ⊎ HasOpen i ps (length g) → IsMet ps (l ∷ g) ⊎ HasOpen i ps (suc (length g))
        next (inl m) = known m (cases_lt m.0 i)
        next (inr o) =
            let near : length o.1 < suc (length g) = omega (arith, o.4) in
            inr (o.0, o.1, o.2, o.3, near)
