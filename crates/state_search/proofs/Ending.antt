-- What a search says at its end, from what held all the time.
use Rattle.std.proofs.Common.{◌≡◌, ◌≤◌, ◌<◌, ◌+◌, ℕ, ◌⊎◌, inl, inr, Bool, true, Option, Some, None, List, ◌∷◌, map, length}
use Rattle.std.proofs.Common.{take, slice_get, refl, ap, sym, subst, ◌∙◌, arith}
use Rattle.std.proofs.lemmas.Bool.{cases_lt}
use Rattle.std.proofs.lemmas.Option.{slice_get_within}
use Rattle.std.specs.Cmp.{IsEquivalence}
use Rattle.std.specs.Option.{option_map}
use Rattle.state_search.specs.declared.firsts.First.{First}
use Rattle.state_search.specs.Firsts.{AreFirsts}
use Rattle.state_search.specs.Paths.{IsPath, IsBelow, Searches, IsNearest, NoneWanted}
use Rattle.state_search.specs.Steps.{AreUnder, AreNotedUnder}
use Rattle.state_search.proofs.Inducing.{IsMet, HasOpen, met}
use Rattle.state_search.proofs.Places.{there, at_take, map_at, map_from, all_from, contains_from}

module _ {L : Type 0} (can : L → List L → Type 0) (node : List L → List ℕ) (i : ℕ) (ps : List (List L)) (u : AreUnder can node i ps) where
  -- the length of paths from which on states may be unknown
  abbrev cut : Option ℕ
  cut = option_map length (slice_get ps i)

  -- a path below the cut leads to a state that was looked at
  abbrev IsLooked : List L → Type 0
  IsLooked h = (k : ℕ) × (p : List L) × (slice_get ps k ≡ Some p) × (node p ≡ node h) × (length p ≤ length h) × (k < i)

  looked : (h : List L) → IsPath can h → IsBelow cut (length h) → IsLooked h
  looked h path below = by (cases_lt i (length ps)) (met can node i ps u h path)
    where
      -- the cut, where there is one, is the length at i
      at_cut : (t : List L) → slice_get ps i ≡ Some t → length h < length t
      at_cut t at = subst (λ o. IsBelow (option_map length o) (length h)) at below

      far : (k : ℕ) (q : List L) → i ≤ k → slice_get ps k ≡ Some q → (i < length ps) ⊎ (length ps ≤ i) → length q ≤ length h → ⊥
      far k q ge at (inl lt) short =
          let t = there ps i lt in
          let n : length t.0 ≤ length q = u.rising i k t.0 q ge t.1 at in
          let m : length h < length t.0 = at_cut t.0 t.1 in
          omega (arith, n, m, short)
      far k q ge at (inr past) short = omega (arith, slice_get_within ps k q at, ge, past)

      near : (m : IsMet can node ps h) → (i < length ps) ⊎ (length ps ≤ i) → (m.0 < i) ⊎ (i ≤ m.0) → IsLooked h
      near m c (inl lt) = (m.0, m.1, m.2, m.3, m.4, lt)
      near m c (inr ge) = absurd (far m.0 m.1 ge m.2 c m.4)

      by : (i < length ps) ⊎ (length ps ≤ i) → IsMet can node ps h ⊎ HasOpen can node i ps (length h) → IsLooked h
      by c (inl m) = near m c (cases_lt m.0 i)
      by c (inr o) = let n : length o.1 ≤ length h = omega (arith, o.4) in absurd (far o.0 o.1 o.2 o.3 c n)

  -- where a state wasn't looked at and is nearer than n, no path is longer than n
  beyond : (n k : ℕ) (p : List L) → slice_get ps k ≡ Some p → HasOpen can node i ps n → length p ≤ n
  beyond n k p at o = by (cases_lt o.0 k)
    where
      by : (o.0 < k) ⊎ (k ≤ o.0) → length p ≤ n
      by (inl lt) =
          let t = there ps i (omega (arith, slice_get_within ps o.0 o.1 o.3, o.2)) in
          let a : length p ≤ length t.0 + 1 = u.near k t.0 p t.1 at in
          let b : length t.0 ≤ length o.1 = u.rising i o.0 t.0 o.1 o.2 t.1 o.3 in
          omega (arith, a, b, o.4)
      by (inr le) =
          let a : length p ≤ length o.1 = u.rising k o.0 p o.1 le at o.3 in
          omega (arith, a, o.4)

  least : (k : ℕ) (p : List L) → slice_get ps k ≡ Some p → (h : List L) → IsPath can h → node h ≡ node p → length p ≤ length h
  least k p at h path same = by (met can node i ps u h path)
    where
      by : IsMet can node ps h ⊎ HasOpen can node i ps (length h) → length p ≤ length h
      by (inl m) =
          let e : k ≡ m.0 = u.apart k m.0 p m.1 at m.2 (sym same ∙ sym m.3) in
          let a : length p ≤ length m.1 = u.rising k m.0 p m.1 (omega (arith, e)) at m.2 in
          omega (arith, a, m.4)
      by (inr o) = beyond (length h) k p at o

  pub searches : Searches can node ps i cut
  searches = record {
    paths_are = all_from (IsPath can) ps u.paths_are;
    apart = λ j k x a b.
        let p = map_from node ps j x a in
        let q = map_from node ps k x b in
        u.apart j k p.0 q.0 p.1 q.1 (p.2 ∙ sym q.2);
    least = all_from (λ p. (h : List L) → IsPath can h → node h ≡ node p → length p ≤ length h) ps least;
    rising = u.rising;
    short = u.short;
    near = u.near;
    within = u.within;
    closed = λ k p l lt at c.
        let next = u.closed k p lt at p l (u.paths_are k p at) refl c in
        contains_from (map node ps) next.0 (node (l ∷ p)) (map_at node ps next.0 next.1 next.2 ∙ ap Some next.3);
    whole = λ none. whole none (cases_lt i (length ps));
    all = λ h path below.
        let m = looked h path below in
        contains_from (map node (take i ps)) m.0 (node h) (map_at node (take i ps) m.0 m.1 (at_take i ps m.0 m.1 m.5 m.2) ∙ ap Some m.3);
  }
    where
      whole : cut ≡ None → (i < length ps) ⊎ (length ps ≤ i) → i ≡ length ps
      whole none (inl lt) =
          let t = there ps i lt in
          let some : cut ≡ Some (length t.0) = ap (option_map length) t.1 in
          let never : ⊥ = cc in
          absurd never
      whole none (inr ge) = omega (arith, ge, u.within)

  module _ (eq : L → L → Bool) (laws : IsEquivalence eq) (fs : List (First L)) (n : AreNotedUnder eq can node i ps fs) where
    -- labels that are taken for the same as a third are so for each other
    both : (a b l : L) → eq a l ≡ true → eq b l ≡ true → eq a b ≡ true
    both a b l x y = laws.symm a b ∙ (laws.congr b l a y ∙ (laws.symm l a ∙ x))

    -- where such a label may come, it didn't come first later
    first : (m : ℕ) (f : First L) → slice_get fs m ≡ Some f → (k : ℕ) (p : List L) (h : List L) (l : L)
        → slice_get ps k ≡ Some p → node h ≡ node p → IsPath can h → can l h
        → eq f.label l ≡ true → f.place ≤ k
    first m f at k p h l here same path c e = by (cases_lt k i)
      where
        by : (k < i) ⊎ (i ≤ k) → f.place ≤ k
        by (inl lt) =
            let d = n.noted k p lt here h l path same c in
            let one : m ≡ d.0 = n.apart m d.0 f d.1 at d.2 (both f.label d.1.label l e d.3) in
            let le : f.place ≤ d.1.place = n.rising m d.0 f d.1 (omega (arith, one)) at d.2 in
            omega (arith, le, d.4)
        by (inr ge) = omega (arith, (n.each m f at).3, ge)

    nearest : (m : ℕ) (f : First L) → slice_get fs m ≡ Some f → (p : List L) → slice_get ps f.place ≡ Some p
        → (h : List L) (l : L) → IsPath can h → can l h → eq f.label l ≡ true
        → length p ≤ length h
    nearest m f at p here h l path c e = by (met can node i ps u h path)
      where
        by : IsMet can node ps h ⊎ HasOpen can node i ps (length h) → length p ≤ length h
        by (inl x) =
            let le : f.place ≤ x.0 = first m f at x.0 x.1 h l x.2 (sym x.3) path c e in
            let a : length p ≤ length x.1 = u.rising f.place x.0 p x.1 le here x.2 in
            omega (arith, a, x.4)
        by (inr o) =
            let le : f.place ≤ o.0 = omega (arith, (n.each m f at).3, o.2) in
            let a : length p ≤ length o.1 = u.rising f.place o.0 p o.1 le here o.3 in
            omega (arith, a, o.4)

    pub firsts : AreFirsts eq can ps cut fs
    firsts = record {
      each = all_from (λ f. (p : List L) × (slice_get ps f.place ≡ Some p) × can f.label p
          × ((h : List L) (l : L) → IsPath can h → can l h → eq f.label l ≡ true → length p ≤ length h)) fs
          (λ m f at. let e = n.each m f at in (e.0, e.1, e.2, λ h l path c same. nearest m f at e.0 e.1 h l path c same));
      first = all_from (λ f. (k : ℕ) (p : List L) (l : L) → slice_get ps k ≡ Some p → can l p → eq f.label l ≡ true → f.place ≤ k) fs
          (λ m f at k p l here c same. first m f at k p p l here refl (u.paths_are k p here) c same);
      apart = n.apart;
      rising = n.rising;
      all = λ h l path below c.
          let x = looked h path below in
          let d = n.noted x.0 x.1 x.5 x.2 h l path (sym x.3) c in
          (d.0, d.1, d.2, d.3);
    }

  module _ (wanted : List L → Type 0)
      (none : (k : ℕ) (g : List L) → k < i → slice_get (map node ps) k ≡ Some (node g) → IsPath can g → wanted g → ⊥) where
    pub none_wanted : NoneWanted can wanted ps i cut
    none_wanted = record {
      passed = λ k p lt at w. none k p lt (map_at node ps k p at) (u.paths_are k p at) w;
      below = λ h path less w.
          let m = looked h path less in
          none m.0 h m.5 (map_at node ps m.0 m.1 m.2 ∙ ap Some m.3) path w;
    }

    -- the next state is wanted
    pub is_nearest : (p : List L) → slice_get ps i ≡ Some p → wanted p → IsNearest can wanted ps i
    is_nearest p at w = record { path = p; there = at; is_wanted = w; least = λ h path is. by h path is (cases_lt (length h) (length p)) }
      where
        by : (h : List L) → IsPath can h → wanted h → (length h < length p) ⊎ (length p ≤ length h) → length p ≤ length h
        by h path is (inl less) =
            absurd (none_wanted.below h path (subst (λ o. IsBelow (option_map length o) (length h)) (sym at) less) is)
        by h path is (inr more) = more
