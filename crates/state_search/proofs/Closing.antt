-- A state was looked at: what comes after it is there, and its labels are noted.
use Rattle.std.proofs.Common.{◌≡◌, ◌≤◌, ◌<◌, ◌+◌, ℕ, ◌⊎◌, inl, inr, Bool, Some, List, ◌∷◌, length, slice_get, ap, sym, subst, ◌∙◌, arith}
use Rattle.std.proofs.lemmas.Bool.{cases_lt}
use Rattle.std.proofs.lemmas.Option.{slice_get_within}
use Rattle.state_search.specs.declared.firsts.First.{First}
use Rattle.state_search.specs.Firsts.{IsNoted, IsNotedAt}
use Rattle.state_search.specs.Paths.{IsPath}
use Rattle.state_search.specs.Steps.{AreUnder, AreNotedUnder}
use Rattle.state_search.proofs.Places.{one_at}

module _ {L : Type 0} (can : L → List L → Type 0) (node : List L → List ℕ) (i : ℕ) (ps : List (List L)) (p : List L) (here : slice_get ps i ≡ Some p) where
  -- at a place that isn't below i, but below the next, stands p
  last : (j : ℕ) (q : List L) → j < i + 1 → i ≤ j → slice_get ps j ≡ Some q → p ≡ q
  last j q lt ge at =
      let e : j ≡ i = omega (arith, lt, ge) in
      one_at ps i p q here (subst (λ n. slice_get ps n ≡ Some q) e at)

  module _ (u : AreUnder can node i ps) where
    pub close : ((g : List L) (l : L) → IsPath can g → node g ≡ node p → can l g → (k : ℕ) × (q : List L) × (slice_get ps k ≡ Some q) × (node q ≡ node (l ∷ g)))
        → AreUnder can node (i + 1) ps
    close all = record {
      within = omega (arith, slice_get_within ps i p here);
      start = u.start;
      paths_are = u.paths_are;
      short = u.short;
      apart = u.apart;
      rising = u.rising;
      near = λ k q r a b.
          let n : length p ≤ length q = u.rising i (i + 1) p q (omega arith) here a in
          let m : length r ≤ length p + 1 = u.near k p r here b in
          omega (arith, n, m);
      closed = λ j q lt a g l path same c. by j q lt a g l path same c (cases_lt j i);
    }
      where
        by : (j : ℕ) (q : List L) → j < i + 1 → slice_get ps j ≡ Some q → (g : List L) (l : L) → IsPath can g → node g ≡ node q → can l g → (j < i) ⊎ (i ≤ j)
            → (k : ℕ) × (r : List L) × (slice_get ps k ≡ Some r) × (node r ≡ node (l ∷ g)) × (length r ≤ length q + 1)
        by j q lt a g l path same c (inl less) = u.closed j q less a g l path same c
        by j q lt a g l path same c (inr ge) =
            let e : p ≡ q = last j q lt ge a in
            let d = all g l path (same ∙ ap node (sym e)) c in
            let m : length d.1 ≤ length p + 1 = u.near d.0 p d.1 here d.2 in
            let n : length p ≡ length q = ap length e in
            (d.0, d.1, d.2, d.3, omega (arith, m, n))

  pub close_noted : (eq : L → L → Bool) (fs : List (First L)) → AreNotedUnder eq can node i ps fs
      → ((g : List L) (l : L) → IsPath can g → node g ≡ node p → can l g → IsNoted eq fs l) → AreNotedUnder eq can node (i + 1) ps fs
  close_noted eq fs n all = record {
    noted = λ j q lt a g l path same c. by j q lt a g l path same c (cases_lt j i);
    each = λ m f at. let e = n.each m f at in (e.0, e.1, e.2, omega (arith, e.3));
    apart = n.apart;
    rising = n.rising;
  }
    where
      by : (j : ℕ) (q : List L) → j < i + 1 → slice_get ps j ≡ Some q → (g : List L) (l : L) → IsPath can g → node g ≡ node q → can l g → (j < i) ⊎ (i ≤ j)
          → IsNotedAt eq fs l (λ n. n ≤ j)
      by j q lt a g l path same c (inl less) = n.noted j q less a g l path same c
      by j q lt a g l path same c (inr ge) =
          let e : p ≡ q = last j q lt ge a in
          let d = all g l path (same ∙ ap node (sym e)) c in
          let m = n.each d.0 d.1 d.2 in
          (d.0, d.1, d.2, d.3, omega (arith, m.3, ge))
