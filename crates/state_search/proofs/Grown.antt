-- States that are added leave what holds as it was.
use Rattle.std.proofs.Common.{◌≡◌, ◌≤◌, ◌<◌, ◌+◌, ℕ, suc, ◌⊎◌, inl, inr, Bool, Option, Some, List, [], ◌∷◌, ◌++◌, map}
use Rattle.std.proofs.Common.{length, slice_get, refl, ap, sym, subst, ◌∙◌, arith, append_assoc}
use Rattle.std.proofs.lemmas.List.{length_push, map-append, append-nil}
use Rattle.std.proofs.lemmas.Option.{slice_get_within, get_or_from_slice_get}
use Rattle.state_search.specs.declared.firsts.First.{First}
use Rattle.state_search.specs.declared.states.Came.{Came}
use Rattle.state_search.specs.Paths.{IsPath, IsEachOnce, path_by, paths_of, states_of}
use Rattle.state_search.specs.Steps.{AreUnder, AreNotedUnder}
use Rattle.state_search.proofs.Places.{one_at, push_cases, at_old, at_seam, map_at}
use Rattle.state_search.proofs.Rooted.{paths_push}

module _ {L : Type 0} (can : L → List L → Type 0) (node : List L → List ℕ) (i : ℕ) where
  module _ (ps : List (List L)) (u : AreUnder can node i ps) (p : List L) (here : slice_get ps i ≡ Some p) (l : L) (may : can l p)
      (fresh : (k : ℕ) (q : List L) → slice_get ps k ≡ Some q → node q ≡ node (l ∷ p) → ⊥) where
    below : i < length ps
    below = slice_get_within ps i p here

    -- an old path, or the new one
    cases : (k : ℕ) (q : List L) → slice_get (ps ++ (l ∷ p) ∷ []) k ≡ Some q → (slice_get ps k ≡ Some q) ⊎ ((k ≡ length ps) × (l ∷ p ≡ q))
    cases k q at = push_cases ps (l ∷ p) q k at

    kept : (k : ℕ) (q : List L) → slice_get ps k ≡ Some q → slice_get (ps ++ (l ∷ p) ∷ []) k ≡ Some q
    kept k q at = at_old ps ((l ∷ p) ∷ []) k q at

    are : (k : ℕ) (q : List L) → (slice_get ps k ≡ Some q) ⊎ ((k ≡ length ps) × (l ∷ p ≡ q)) → IsPath can q
    are k q (inl a) = u.paths_are k q a
    are k q (inr a) = subst (IsPath can) a.1 (may, u.paths_are i p here)

    short : (k : ℕ) (q : List L) → (slice_get ps k ≡ Some q) ⊎ ((k ≡ length ps) × (l ∷ p ≡ q)) → length q ≤ k
    short k q (inl a) = u.short k q a
    short k q (inr a) =
        let n : suc (length p) ≡ length q = ap length a.1 in
        omega (arith, n, a.0, below, u.short i p here)

    apart : (j k : ℕ) (q r : List L) → node q ≡ node r → (slice_get ps j ≡ Some q) ⊎ ((j ≡ length ps) × (l ∷ p ≡ q))
        → (slice_get ps k ≡ Some r) ⊎ ((k ≡ length ps) × (l ∷ p ≡ r)) → j ≡ k
    apart j k q r e (inl a) (inl b) = u.apart j k q r a b e
    apart j k q r e (inl a) (inr b) = absurd (fresh j q a (e ∙ ap node (sym b.1)))
    apart j k q r e (inr a) (inl b) = absurd (fresh k r b (sym e ∙ ap node (sym a.1)))
    apart j k q r e (inr a) (inr b) = a.0 ∙ sym b.0

    rising : (j k : ℕ) (q r : List L) → j ≤ k → (slice_get ps j ≡ Some q) ⊎ ((j ≡ length ps) × (l ∷ p ≡ q))
        → (slice_get ps k ≡ Some r) ⊎ ((k ≡ length ps) × (l ∷ p ≡ r)) → length q ≤ length r
    rising j k q r le (inl a) (inl b) = u.rising j k q r le a b
    rising j k q r le (inl a) (inr b) =
        let n : suc (length p) ≡ length r = ap length b.1 in
        omega (arith, n, u.near j p q here a)
    rising j k q r le (inr a) (inl b) = absurd (omega (arith, slice_get_within ps k r b, a.0, le))
    rising j k q r le (inr a) (inr b) =
        let n : length q ≡ length r = ap length (sym a.1 ∙ b.1) in
        omega (arith, n)

    near : (k : ℕ) (r : List L) → (slice_get ps k ≡ Some r) ⊎ ((k ≡ length ps) × (l ∷ p ≡ r)) → length r ≤ length p + 1
    near k r (inl b) = u.near k p r here b
    near k r (inr b) =
        let n : suc (length p) ≡ length r = ap length b.1 in
        omega (arith, n)

    -- what was looked at is old
    old : (j : ℕ) (q : List L) → j < i → (slice_get ps j ≡ Some q) ⊎ ((j ≡ length ps) × (l ∷ p ≡ q)) → slice_get ps j ≡ Some q
    old j q lt (inl a) = a
    old j q lt (inr a) = absurd (omega (arith, lt, a.0, below))

    pub grow_one : AreUnder can node i (ps ++ (l ∷ p) ∷ [])
    grow_one = record {
      within = let n : length (ps ++ (l ∷ p) ∷ []) ≡ length ps + 1 = length_push ps (l ∷ p) in omega (arith, n, below);
      start = kept 0 [] u.start;
      paths_are = λ k q at. are k q (cases k q at);
      short = λ k q at. short k q (cases k q at);
      apart = λ j k q r a b e. apart j k q r e (cases j q a) (cases k r b);
      rising = λ j k q r le a b. rising j k q r le (cases j q a) (cases k r b);
      near = λ k q r a b.
          let n : length p ≡ length q = ap length (one_at (ps ++ (l ∷ p) ∷ []) i p q (kept i p here) a) in
          let m : length r ≤ length p + 1 = near k r (cases k r b) in
          omega (arith, n, m);
      closed = λ j q lt a g m path same c.
          let d = u.closed j q lt (old j q lt (cases j q a)) g m path same c in
          (d.0, d.1, kept d.0 d.1 d.2, d.3, d.4);
    }

    pub grow_noted : (eq : L → L → Bool) (fs : List (First L)) → AreNotedUnder eq can node i ps fs → AreNotedUnder eq can node i (ps ++ (l ∷ p) ∷ []) fs
    grow_noted eq fs n = record {
      noted = λ j q lt a g m path same c. n.noted j q lt (old j q lt (cases j q a)) g m path same c;
      each = λ m f at. let e = n.each m f at in (e.0, kept f.place e.0 e.1, e.2, e.3);
      apart = n.apart;
      rising = n.rising;
    }

  -- what an added state must be
  abbrev pub AddsStep : List L → List ℕ × Option (Came L) → Type 0
  AddsStep p e = (l : L) × can l p × (node (l ∷ p) ≡ e.0) × (e.1 ≡ Some (record { from = i; label = l }))

  pub record AreGrown (eq : L → L → Bool) (es : List (List ℕ × Option (Came L))) (fs : List (First L)) : Type 0 where
    pub under : AreUnder can node i (paths_of es)
    pub noted : AreNotedUnder eq can node i (paths_of es) fs
    pub states : states_of es ≡ map node (paths_of es)

  module _ (eq : L → L → Bool) (fs : List (First L)) (p : List L) where
    -- one state more
    grown_one : (es : List (List ℕ × Option (Came L))) (e : List ℕ × Option (Came L)) → AreGrown eq es fs → slice_get (paths_of es) i ≡ Some p
        → AddsStep p e → ((k : ℕ) → slice_get (states_of es) k ≡ Some e.0 → ⊥)
        → AreGrown eq (es ++ e ∷ []) fs × (slice_get (paths_of (es ++ e ∷ [])) i ≡ Some p)
    grown_one es e g here a new =
        let ps = paths_of es in
        let by : path_by ps e.1 ≡ a.0 ∷ p = ap (path_by ps) a.3 ∙ ap (λ q. a.0 ∷ q) (get_or_from_slice_get ps i p [] here) in
        let is : paths_of (es ++ e ∷ []) ≡ ps ++ (a.0 ∷ p) ∷ [] = paths_push [] es e ∙ ap (λ t. ps ++ t ∷ []) by in
        let fresh : (k : ℕ) (q : List L) → slice_get ps k ≡ Some q → node q ≡ node (a.0 ∷ p) → ⊥ =
        λ k q at same. new k (ap (λ t. slice_get t k) g.states ∙ (map_at node ps k q at ∙ ap Some (same ∙ a.2))) in
        let link : states_of (es ++ e ∷ []) ≡ map node (ps ++ (a.0 ∷ p) ∷ []) =
        map-append (λ x. x.0) es (e ∷ []) ∙ ((λ j. g.states j ++ sym a.2 j ∷ []) ∙ sym (map-append node ps ((a.0 ∷ p) ∷ []))) in (
          record {
            under = subst (AreUnder can node i) (sym is) (grow_one ps g.under p here a.0 a.1 fresh);
            noted = subst (λ t. AreNotedUnder eq can node i t fs) (sym is) (grow_noted ps g.under p here a.0 a.1 fresh eq fs g.noted);
            states = link ∙ ap (map node) (sym is);
          },
          ap (λ t. slice_get t i) is ∙ at_old ps ((a.0 ∷ p) ∷ []) i p here,
        )

    -- many more
    pub grown_all : (es added : List (List ℕ × Option (Came L))) → AreGrown eq es fs → slice_get (paths_of es) i ≡ Some p
        → ((k : ℕ) (e : List ℕ × Option (Came L)) → slice_get added k ≡ Some e → AddsStep p e) → IsEachOnce (states_of (es ++ added))
        → AreGrown eq (es ++ added) fs × (slice_get (paths_of (es ++ added)) i ≡ Some p)
    grown_all es [] g here each once =
        let P : List (List ℕ × Option (Came L)) → Type 0 = λ t. AreGrown eq t fs × (slice_get (paths_of t) i ≡ Some p) in
        subst P (sym (append-nil es)) (g, here)
    grown_all es (e ∷ added) g here each once =
        let P : List (List ℕ × Option (Came L)) → Type 0 = λ t. AreGrown eq t fs × (slice_get (paths_of t) i ≡ Some p) in
        let first : slice_get (states_of (es ++ e ∷ added)) (length es)
        ≡ Some e.0 = map_at (λ (x : List ℕ × Option (Came L)). x.0) (es ++ e ∷ added) (length es) e
        (at_seam es e added) in
        let new : (k : ℕ) → slice_get (states_of es) k ≡ Some e.0 → ⊥ =
        λ k at.
        let lt : k < length (states_of es) = slice_get_within (states_of es) k e.0 at in
        let both : k ≡ length es = once k (length es) e.0
        (ap (λ t. slice_get t k) (map-append (λ x. x.0) es (e ∷ added))
        ∙ at_old (states_of es) (states_of (e ∷ added)) k e.0 at) first in
        omega (arith, lt, both, long es) in
        let one = grown_one es e g here (each 0 e refl) new in
        let assoc : (es ++ e ∷ []) ++ added ≡ es ++ e ∷ added = append_assoc es (e ∷ []) added in
        subst P assoc (grown_all (es ++ e ∷ []) added one.0 one.1 (λ k x at. each (suc k) x at) (subst (λ t. IsEachOnce (states_of t)) (sym assoc) once))
      where
        long : (es : List (List ℕ × Option (Came L))) → length (states_of es) ≡ length es
        long [] = refl
        long (x ∷ xs) = ap suc (long xs)
