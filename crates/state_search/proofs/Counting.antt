-- How many labels may come after each path that was looked at.
use Rattle.std.proofs.Common.{◌≡◌, ◌≤◌, ◌<◌, ℕ, ◌⊎◌, inl, inr, Option, Some, List, [], ◌∷◌, ◌++◌, map, length, slice_get, subst, arith}
use Rattle.std.proofs.lemmas.List.{length-map}
use Rattle.std.proofs.lemmas.Option.{slice_get_within, none-some}
use Rattle.state_search.specs.declared.states.Came.{Came}
use Rattle.state_search.specs.Paths.{AreSteps, IsCount, AreCounted, paths_of}
use Rattle.state_search.proofs.Places.{one_at, push_cases, there, all_from, all_at, map_from}
use Rattle.state_search.proofs.Rooted.{paths_stay}

module _ {L : Type 0} (can : L → List L → Type 0) where
  pub none_counted : (ps : List (List L)) → AreCounted can ps []
  none_counted ps k p n at is = absurd (none-some n is)

  -- states that are added leave the counts
  pub counts_stay : (es added : List (List ℕ × Option (Came L))) (cs : List ℕ) → length cs ≤ length (paths_of es)
      → AreCounted can (paths_of es) cs → AreCounted can (paths_of (es ++ added)) cs
  counts_stay es added cs le counted k p n at is =
      let lt : k < length cs = slice_get_within cs k n is in
      let t = there (paths_of es) k (omega (arith, lt, le)) in
      let same : t.0 ≡ p = one_at (paths_of (es ++ added)) k t.0 p (paths_stay es added k t.0 t.1) at in
      counted k p n (subst (λ q. slice_get (paths_of es) k ≡ Some q) same t.1) is

  -- one more path is counted
  pub counts_more : (ps : List (List L)) (cs : List ℕ) (p : List L) (n : ℕ) → slice_get ps (length cs) ≡ Some p → IsCount can p n
      → AreCounted can ps cs → AreCounted can ps (cs ++ n ∷ [])
  counts_more ps cs p n here count counted k q m at is = by (push_cases cs n m k is)
    where
      by : (slice_get cs k ≡ Some m) ⊎ ((k ≡ length cs) × (n ≡ m)) → IsCount can q m
      by (inl old) = counted k q m at old
      by (inr new) =
          let same : p ≡ q = one_at ps (length cs) p q here (subst (λ j. slice_get ps j ≡ Some q) new.0 at) in
          subst (λ t. IsCount can t m) same (subst (IsCount can p) new.1 count)

  -- what was found after a path
  pub count_of : (node : List L → List ℕ) (p : List L) (found : List (L × List ℕ)) → AreSteps can node p found → IsCount can p (length found)
  count_of node p found s = record {
    labels = map (λ f. f.0) found;
    once = s.once;
    each = all_from (λ l. can l p) (map (λ f. f.0) found) (λ k l at.
        let f = map_from (λ (f : L × List ℕ). f.0) found k l at in
        subst (λ t. can t p) f.2 (all_at (λ f. can f.0 p × (node (f.0 ∷ p) ≡ f.1)) found k f.0 s.each f.1).0);
    all = s.all;
    many = length-map found (λ (f : L × List ℕ). f.0);
  }
