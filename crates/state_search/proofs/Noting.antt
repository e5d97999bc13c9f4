-- The labels of the next state are noted.
use Rattle.std.proofs.Common.{◌≡◌, ◌≤◌, ℕ, ◌⊎◌, inl, inr, Bool, Some, List, length, slice_get, sym, subst, arith}
use Rattle.std.proofs.lemmas.Option.{slice_get_within}
use Rattle.state_search.specs.declared.firsts.First.{First}
use Rattle.state_search.specs.Growing.{AreNoted}
use Rattle.state_search.specs.Steps.{AreNotedUnder}
use Rattle.state_search.proofs.Places.{append_cases, at_old}

module _ {L : Type 0} (eq : L → L → Bool) (can : L → List L → Type 0) (node : List L → List ℕ) (i : ℕ)
    (ps : List (List L)) (p : List L) (here : slice_get ps i ≡ Some p)
    (found : List (L × List ℕ)) (may : (m : ℕ) (l : L) (words : List ℕ) → slice_get found m ≡ Some (l, words) → can l p)
    (n : ℕ) (fs gs : List (First L)) (u : AreNotedUnder eq can node i ps fs) (d : AreNoted eq i found n fs gs) where
  -- an old label, or a new one
  cases : (m : ℕ) (f : First L) → slice_get gs m ≡ Some f → (slice_get fs m ≡ Some f) ⊎ ((length fs ≤ m) × (j : ℕ) × (slice_get d.added j ≡ Some f))
  cases m f at = append_cases fs d.added f m (subst (λ t. slice_get t m ≡ Some f) d.grows at)

  kept : (m : ℕ) (f : First L) → slice_get fs m ≡ Some f → slice_get gs m ≡ Some f
  kept m f at = subst (λ t. slice_get t m ≡ Some f) (sym d.grows) (at_old fs d.added m f at)

  each : (m : ℕ) (f : First L) → (slice_get fs m ≡ Some f) ⊎ ((length fs ≤ m) × (j : ℕ) × (slice_get d.added j ≡ Some f))
      → (q : List L) × (slice_get ps f.place ≡ Some q) × can f.label q × (f.place ≤ i)
  each m f (inl a) = u.each m f a
  each m f (inr a) =
      let e = d.each a.1 f a.2 in
      (p, subst (λ t. slice_get ps t ≡ Some p) (sym e.0) here, may e.1 f.label e.2 e.3, omega (arith, e.0))

  rising : (j k : ℕ) (a b : First L) → j ≤ k → (slice_get fs j ≡ Some a) ⊎ ((length fs ≤ j) × (m : ℕ) × (slice_get d.added m ≡ Some a))
      → (slice_get fs k ≡ Some b) ⊎ ((length fs ≤ k) × (m : ℕ) × (slice_get d.added m ≡ Some b)) → a.place ≤ b.place
  rising j k a b le (inl x) (inl y) = u.rising j k a b le x y
  rising j k a b le (inl x) (inr y) = omega (arith, (u.each j a x).3, (d.each y.1 b y.2).0)
  rising j k a b le (inr x) (inl y) = absurd (omega (arith, x.0, slice_get_within fs k b y, le))
  rising j k a b le (inr x) (inr y) = omega (arith, (d.each x.1 a x.2).0, (d.each y.1 b y.2).0)

  pub noted : AreNotedUnder eq can node i ps gs
  noted = record {
    noted = λ j q lt a g l path same c. let e = u.noted j q lt a g l path same c in (e.0, e.1, kept e.0 e.1 e.2, e.3, e.4);
    each = λ m f at. each m f (cases m f at);
    apart = d.apart u.apart;
    rising = λ j k a b le x y. rising j k a b le (cases j a x) (cases k b y);
  }
