-- One state is looked at.
use Rattle.std.proofs.Common.{◌≡◌, ◌≤◌, ◌<◌, ◌+◌, ℕ, suc, zero, Bool, Option, Some, List, [], ◌∷◌, ◌++◌, map, length}
use Rattle.std.proofs.Common.{slice_get, Contains, refl, ap, sym, subst, ◌∙◌, arith}
use Rattle.std.proofs.lemmas.List.{length_push}
use Rattle.std.proofs.lemmas.Option.{slice_get_within, none-some}
use Rattle.state_search.specs.declared.firsts.First.{First}
use Rattle.state_search.specs.declared.states.Came.{Came}
use Rattle.state_search.specs.Growing.{ArePut, AreNoted, LeavesOne}
use Rattle.state_search.specs.Paths.{IsPath, IsEachOnce, IsReached, AreSteps, LeavesOut, AreCounted, paths_of, states_of}
use Rattle.state_search.specs.Seen.{SearchSeen, search_seen}
use Rattle.state_search.specs.Steps.{AreUnder, AreNotedUnder, IsUnder, IsStart}
use Rattle.state_search.proofs.Closing.{close, close_noted}
use Rattle.state_search.proofs.Counting.{none_counted, counts_stay, counts_more, count_of}
use Rattle.state_search.proofs.Grown.{AddsStep, AreGrown, grown_all}
use Rattle.state_search.proofs.Noting as noting
use Rattle.state_search.proofs.Places.{same_some, one_at, there, all_at, contains_at, map_at, map_from}

module _ {L : Type 0} (eq : L → L → Bool) (can : L → List L → Type 0) (node : List L → List ℕ) where
  -- the first state alone
  begun : AreUnder can node 0 ([] ∷ [])
  begun = record {
    within = omega arith;
    start = refl;
    paths_are = λ k p at. let e = one k p at in subst (IsPath can) e.1 tt;
    short = λ k p at. let e = one k p at in subst (λ p. length p ≤ k) e.1 (omega arith);
    apart = λ j k p q a b same. (one j p a).0 ∙ sym (one k q b).0;
    rising = λ j k p q le a b. subst (λ p. length p ≤ length q) (one j p a).1 (omega arith);
    near = λ k p q a b. subst (λ q. length q ≤ length p + 1) (one k q b).1 (omega arith);
    closed = λ j p lt at g l path same c. absurd (omega (arith, lt));
  }
    where
      one : (k : ℕ) (p : List L) → slice_get ([] ∷ []) k ≡ Some p → (k ≡ 0) × ([] ≡ p)
      one zero p at = (refl, same_some [] p at)
      one (suc k) p at = absurd (none-some p at)

  unnoted : (ps : List (List L)) → AreNotedUnder eq can node 0 ps []
  unnoted ps = record {
    noted = λ j p lt at g l path same c. absurd (omega (arith, lt));
    each = λ m f at. absurd (none-some f at);
    apart = λ j k a b x y e. absurd (none-some a x);
    rising = λ j k a b le x y. absurd (none-some a x);
  }

  pub starts : (s : SearchSeen L) → IsStart node s → IsUnder eq can node s
  starts s h = record {
    paths = subst (λ n. AreUnder can node n s.paths) (sym h.looked) (subst (AreUnder can node 0) (sym h.paths) begun);
    states = h.states ∙ ap (map node) (sym h.paths);
    firsts = subst (λ n. AreNotedUnder eq can node n s.paths s.firsts) (sym h.looked)
        (subst (AreNotedUnder eq can node 0 s.paths) (sym h.firsts) (unnoted s.paths));
    counts = subst (AreCounted can s.paths) (sym h.counts) (none_counted can s.paths);
    counted = ap length h.counts ∙ sym h.looked;
  }

  module _ (cs : List ℕ) (es es' : List (List ℕ × Option (Came L))) (fs gs : List (First L)) (found : List (L × List ℕ)) (n : ℕ)
      (u : IsUnder eq can node (search_seen es fs cs)) (p : List L) (here : slice_get (paths_of es) (length cs) ≡ Some p)
      (steps : (g : List L) → IsPath can g → node g ≡ node p → AreSteps can node g found)
      (d : AreNoted eq (length cs) found (length found) fs gs) (put : ArePut (length cs) found n es es') where
    abbrev i : ℕ
    i = length cs

    found_is : (g : List L) → IsPath can g → node g ≡ node p → (m : ℕ) (l : L) (words : List ℕ)
        → slice_get found m ≡ Some (l, words) → can l g × (node (l ∷ g) ≡ words)
    found_is g path same m l words at = all_at (λ f. can f.0 g × (node (f.0 ∷ g) ≡ f.1)) found m (l, words) (steps g path same).each at

    of_p : (m : ℕ) (l : L) (words : List ℕ) → slice_get found m ≡ Some (l, words) → can l p × (node (l ∷ p) ≡ words)
    of_p = found_is p (u.paths.paths_are i p here) refl

    grown : AreGrown can node i eq es' gs × (slice_get (paths_of es') i ≡ Some p)
    grown =
        let noted : AreNotedUnder eq can node i (paths_of es) gs =
        noting.noted eq can node i (paths_of es) p here found (λ m l words at. (of_p m l words at).0) (length found) fs gs u.firsts d in
        let g : AreGrown can node i eq es gs = record { under = u.paths; noted = noted; states = u.states } in
        let each : (k : ℕ) (e : List ℕ × Option (Came L)) → slice_get put.added k ≡ Some e → AddsStep can node i p e =
        λ k e at. let x = put.each k e at in let y = of_p x.0 x.1 e.0 x.2 in (x.1, y.0, y.1, x.3) in
        let old : IsEachOnce (states_of es) = λ j k x a b.
        let q = map_from node (paths_of es) j x (ap (λ t. slice_get t j) (sym u.states) ∙ a) in
        let r = map_from node (paths_of es) k x (ap (λ t. slice_get t k) (sym u.states) ∙ b) in
        u.paths.apart j k q.0 r.0 q.1 r.1 (q.2 ∙ sym r.2) in
        let once : IsEachOnce (states_of (es ++ put.added)) = subst (λ t. IsEachOnce (states_of t)) put.grows (put.apart old) in
        subst (λ t. AreGrown can node i eq t gs × (slice_get (paths_of t) i ≡ Some p)) (sym put.grows)
        (grown_all can node i eq gs p es put.added g here each once)

    kept : AreCounted can (paths_of es') cs
    kept = subst (λ t. AreCounted can (paths_of t) cs) (sym put.grows) (counts_stay can es put.added cs u.paths.within u.counts)

    -- not all of what was found fits
    pub look_cut : IsUnder eq can node (search_seen es' gs cs)
    look_cut = record { paths = grown.0.under; states = grown.0.states; firsts = grown.0.noted; counts = kept; counted = refl }

    -- a state that comes after it is left out, if not all that was found fits
    pub look_leaves : LeavesOne found es' → LeavesOut can node (paths_of es') (length cs)
    look_leaves left q at =
        let same : p ≡ q = one_at (paths_of es') i p q grown.1 at in
        let of = of_p left.0 left.1 left.2 left.3 in
        let out : Contains (map node (paths_of es')) (node (left.1 ∷ p)) → ⊥ = λ has.
        let k = contains_at (map node (paths_of es')) (node (left.1 ∷ p)) has in
        left.4 (k.0, ap (λ t. slice_get t k.0) grown.0.states ∙ (k.1 ∙ ap Some of.1)) in
        let next = subst (λ t. can left.1 t × (Contains (map node (paths_of es')) (node (left.1 ∷ t)) → ⊥)) same (of.0, out) in
        (left.1, next.0, next.1)

    one_more : length cs + 1 ≡ length (cs ++ length found ∷ [])
    one_more = sym (length_push cs (length found))

    -- a label that may come after the path was found
    label_found : (g : List L) (l : L) → IsPath can g → node g ≡ node p → can l g → (m : ℕ) × (words : List ℕ) × (slice_get found m ≡ Some (l, words))
    label_found g l path same c =
        let a = contains_at (map (λ f. f.0) found) l ((steps g path same).all l c) in
        let b = map_from (λ (f : L × List ℕ). f.0) found a.0 l a.1 in
        (a.0, b.0.1, b.1 ∙ ap (λ t. Some (t, b.0.1)) b.2)

    -- all of it fits
    pub look_whole : length found ≤ n → IsUnder eq can node (search_seen es' gs (cs ++ length found ∷ []))
    look_whole le = record {
      paths = subst (λ m. AreUnder can node m (paths_of es')) one_more
          (close can node i (paths_of es') p grown.1 grown.0.under (λ g l path same c.
          let f = label_found g l path same c in
          let is = put.all f.0 l f.1 (omega (arith, slice_get_within found f.0 (l, f.1) f.2, le)) f.2 in
          let q = map_from node (paths_of es') is.0 f.1 (ap (λ t. slice_get t is.0) (sym grown.0.states) ∙ is.1) in
          (is.0, q.0, q.1, q.2 ∙ sym (found_is g path same f.0 l f.1 f.2).1)));
      states = grown.0.states;
      firsts = subst (λ m. AreNotedUnder eq can node m (paths_of es') gs) one_more
          (close_noted can node i (paths_of es') p grown.1 eq gs grown.0.noted (λ g l path same c.
          let f = label_found g l path same c in
          d.all f.0 l f.1 (slice_get_within found f.0 (l, f.1) f.2) f.2));
      counts = counts_more can (paths_of es') cs p (length found) grown.1
          (count_of can node p found (steps p (u.paths.paths_are i p here) refl)) kept;
      counted = refl;
    }

  -- the same, of what is seen of the search
  module _ (cs : List ℕ) (es es' : List (List ℕ × Option (Came L))) (fs gs : List (First L)) (found : List (L × List ℕ)) (s : SearchSeen L)
      (is : search_seen es fs cs ≡ s) (u : IsUnder eq can node s) (open' : s.looked < length s.paths) (ws : List ℕ)
      (i : ℕ) (place : i ≡ length cs) (found_at : slice_get (states_of es) i ≡ Some ws) where
    at : slice_get (states_of es) (length cs) ≡ Some ws
    at = subst (λ n. slice_get (states_of es) n ≡ Some ws) place found_at

    under : IsUnder eq can node (search_seen es fs cs)
    under = subst (IsUnder eq can node) (sym is) u

    -- the path to the state that is looked at
    pub next_path : (p : List L) × (slice_get (paths_of es) (length cs) ≡ Some p)
    next_path = there (paths_of es) (length cs) (subst (λ t. t.looked < length t.paths) (sym is) open')

    pub next_node : node next_path.0 ≡ ws
    next_node = same_some (node next_path.0) ws (sym (map_at node (paths_of es) (length cs) next_path.0 next_path.1)
        ∙ (ap (λ t. slice_get t (length cs)) (sym under.states) ∙ at))

    pub next_reached : (n : ℕ) → length s.paths ≤ n → IsReached can node n ws
    next_reached n few =
        let p = next_path in
        let short : length p.0 ≤ (length cs) = under.paths.short (length cs) p.0 p.1 in
        let lt : (length cs) < length (paths_of es) = slice_get_within (paths_of es) (length cs) p.0 p.1 in
        let le : length (paths_of es) ≤ n = subst (λ t. length t.paths ≤ n) (sym is) few in
        (p.0, under.paths.paths_are (length cs) p.0 p.1, next_node, omega (arith, short, lt, le))

    module _ (steps : (g : List L) → IsPath can g → node g ≡ ws → AreSteps can node g found)
        (noted : AreNoted eq i found (length found) fs gs) (n : ℕ) (puts : ArePut i found n es es') where
      d : AreNoted eq (length cs) found (length found) fs gs
      d = subst (λ m. AreNoted eq m found (length found) fs gs) place noted

      put : ArePut (length cs) found n es es'
      put = subst (λ m. ArePut m found n es es') place puts

      steps_of : (g : List L) → IsPath can g → node g ≡ node next_path.0 → AreSteps can node g found
      steps_of g path same = steps g path (same ∙ next_node)

      pub looks_cut : IsUnder eq can node (search_seen es' gs cs)
      looks_cut = look_cut cs es es' fs gs found n under next_path.0 next_path.1 steps_of d put

      pub leaves_out : LeavesOne found es' → LeavesOut can node (paths_of es') (length cs)
      leaves_out left = look_leaves cs es es' fs gs found n under next_path.0 next_path.1 steps_of d put left

      pub looks_whole : length found ≤ n → IsUnder eq can node (search_seen es' gs (cs ++ length found ∷ []))
      looks_whole le = look_whole cs es es' fs gs found n under next_path.0 next_path.1 steps_of d put le
