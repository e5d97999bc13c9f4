-- What a search through the states of a line says of its histories.
use Rattle.std.proofs.Common.{Contains, map, take, ◌≡◌, ◌≤◌, ◌<◌, ℕ, Bool, true, false, ltb, Option, None, Some, List}
use Rattle.std.proofs.Common.{[], ◌∷◌, length, slice_get, refl, sym, subst, ◌∙◌, arith, get_or}
use Rattle.std.proofs.lemmas.Bool.Decides.{nat_tests}
use Rattle.irq_base.specs.declared.entries.Entry.{Entry}
use Rattle.irq_base.specs.declared.lines.LineDef.{LineDef}
use Rattle.irq_model.specs.Legal.{IsDue, IsLegalPast}
use Rattle.irq_model.specs.Valid.{IsValid}
use Rattle.line_futures.proofs.Futures.{due_alike, alike_after}
use Rattle.line_futures.specs.Futures.{AreAlike}
use Rattle.line_space.proofs.Nodes.{node_tells, node_same}
use Rattle.line_space.specs.Found.{IsShortest, IsNever, IsNotWithin}
use Rattle.line_words.specs.Node.{node}
use Rattle.state_search.proofs.Places.{all_at}
use Rattle.state_search.specs.Firsts.{IsNoted, AreFirsts}
use Rattle.state_search.specs.Paths.{IsPath, IsBelow, AreSteps, Searches}
use Rattle.state_search.specs.declared.firsts.First.{First}

module _ (def : LineDef) where
  -- a path of the search is a legal past
  pub path_is_legal : (g : List Entry) → IsPath (IsDue def) g → IsLegalPast def g
  path_is_legal [] p = tt
  path_is_legal (e ∷ g) p = (p.0, path_is_legal g p.1)

  pub legal_is_path : (g : List Entry) → IsLegalPast def g → IsPath (IsDue def) g
  legal_is_path [] p = tt
  legal_is_path (e ∷ g) p = (p.0, legal_is_path g p.1)

  module _ (valid : IsValid def) where
    like_back : (g h : List Entry) → AreAlike def g h → AreAlike def h g
    like_back g h like = record { state = sym like.state; places = λ r. (sym (like.places r).0, sym (like.places r).1) }

    -- what may come after one past with these numbers may come after any, and leads to the same numbers
    pub steps_anywhere : (g h : List Entry) (found : List (Entry × List ℕ)) → IsLegalPast def g → IsLegalPast def h → node def g ≡ node def h
        → AreSteps (IsDue def) (node def) g found → AreSteps (IsDue def) (node def) h found
    steps_anywhere g h found legal other same steps =
        let like = node_tells def valid g h legal other same in
        let back = like_back g h like in
        record {
          each = λ k d lt.
              let f = steps.each k d lt in
              let e = (get_or found k d).0 in (
                due_alike def valid g h legal other like e f.0,
                sym
                    (node_same def valid (e ∷ g) (e ∷ h) (f.0, legal)
                    (due_alike def valid g h legal other like e f.0, other)
                    (alike_after def valid g h legal other like e f.0)) ∙ f.1,
              );
          all = λ e due. steps.all e (due_alike def valid h g other legal back e due);
          once = steps.once;
        }

  module _ (paths : List (List Entry)) (looked : ℕ) (cut : Option ℕ) (searches : Searches (IsDue def) (node def) paths looked cut) where
    -- the state of each legal past is there
    pub reached : (h : List Entry) → IsLegalPast def h → IsBelow cut (length h) → Contains (map (node def) (take looked paths)) (node def h)
    reached h legal below = searches.all h (legal_is_path h legal) below

    -- and its own past is legal, and a shortest one
    pub shortest : (k : ℕ) (p : List Entry) → slice_get paths k ≡ Some p
        → IsLegalPast def p × ((h : List Entry) → IsLegalPast def h → node def h ≡ node def p → length p ≤ length h)
    shortest k p is =
        let L : List Entry → Type 0 = λ p. (h : List Entry) → IsPath (IsDue def) h → node def h ≡ node def p → length p ≤ length h in
        let least : L p = all_at L paths k p searches.least is in
        (path_is_legal p (all_at (IsPath (IsDue def)) paths k p searches.paths_are is), λ h legal same. least h (legal_is_path h legal) same)

  module _ (eq : Entry → Entry → Bool) (paths : List (List Entry)) (looked : ℕ) (cut : Option ℕ)
      (firsts : List (First Entry)) (searches : Searches (IsDue def) (node def) paths looked cut)
      (are : AreFirsts eq (IsDue def) paths cut firsts) where
    -- the path that was met is legal
    path_at : (j : ℕ) (p : List Entry) → slice_get paths j ≡ Some p → IsPath (IsDue def) p
    path_at j p is = all_at (IsPath (IsDue def)) paths j p searches.paths_are is

    -- an entry that was met, with its shortest past
    pub met : (k : ℕ) (f : First Entry) → slice_get firsts k ≡ Some f → eq f.label f.label ≡ true
        → (p : List Entry) × (slice_get paths f.place ≡ Some p) × IsShortest def f.label p
    met k f there itself =
        let F : First Entry → Type 0 = λ f. (p : List Entry) × (slice_get paths f.place ≡ Some p) × IsDue def f.label p
        × ((h : List Entry) (l : Entry) → IsPath (IsDue def) h → IsDue def l h → eq f.label l ≡ true → length p ≤ length h) in
        let x = all_at F firsts k f are.each there in
        (x.0, x.1, record { legal = (x.2, path_is_legal x.0 (path_at f.place x.0 x.1)); least = λ h is. x.3 h f.label (legal_is_path h is.1) is.0 itself })

    below : (c : Option ℕ) (n : ℕ) → cut ≡ c → IsBelow c n → IsBelow cut n
    below c n is b = let P : Option ℕ → Type 0 = λ x. IsBelow x n in subst P (sym is) b

    pub never : (e : Entry) → cut ≡ None → (IsNoted eq firsts e → ⊥) → IsNever def e
    never e whole unmet h legal = unmet (are.all h e (legal_is_path h legal.1) (below None (length h) whole tt) legal.0)

    pub not_within : (e : Entry) (n : ℕ) → cut ≡ Some n → (IsNoted eq firsts e → ⊥) → IsNotWithin def e n
    not_within e n is unmet h legal = by_less (ltb (length h) n) refl
      where
        by_less : (b : Bool) → ltb (length h) n ≡ b → n < length (e ∷ h)
        by_less true less =
            let lt : length h < n = grind (arith, nat_tests) in
            absurd (unmet (are.all h e (legal_is_path h legal.1) (below (Some n) (length h) is lt) legal.0))
        by_less false more = let ge : n ≤ length h = grind (arith, nat_tests) in omega arith
