-- None of the states that were looked at is wanted.
use Rattle.std.proofs.Common.{◌≡◌, ◌≤◌, ◌<◌, ◌+◌, ℕ, ◌⊎◌, inl, inr, Bool, Option, Some, List, [], ◌∷◌, ◌++◌, map, length}
use Rattle.std.proofs.Common.{slice_get, ap, sym, subst, ◌∙◌, arith}
use Rattle.std.proofs.lemmas.Bool.{cases_lt}
use Rattle.std.proofs.lemmas.List.{length_push, map-append, length-map}
use Rattle.state_search.specs.declared.firsts.First.{First}
use Rattle.state_search.specs.declared.states.Came.{Came}
use Rattle.state_search.specs.Growing.{ArePut}
use Rattle.state_search.specs.Paths.{IsPath, IsNearest, NoneWanted, paths_of, states_of}
use Rattle.state_search.specs.Seen.{SearchSeen, search_seen, cut_of}
use Rattle.state_search.specs.Steps.{IsUnder, IsNext, NonePassed}
use Rattle.state_search.proofs.Ending.{none_wanted, is_nearest}
use Rattle.state_search.proofs.Places.{one_at, at_old, there, map_at}

module _ {L : Type 0} where
  states_stay : (es added : List (List ℕ × Option (Came L))) (k : ℕ) (ws : List ℕ)
      → slice_get (states_of es) k ≡ Some ws → slice_get (states_of (es ++ added)) k ≡ Some ws
  states_stay es added k ws at = ap (λ t. slice_get t k) (map-append (λ (e : List ℕ × Option (Came L)). e.0) es added)
      ∙ at_old (states_of es) (states_of added) k ws at

  -- what is added leaves what was there
  pub put_stays : (from : ℕ) (found : List (L × List ℕ)) (n : ℕ) (es es' : List (List ℕ × Option (Came L))) → ArePut from found n es es'
      → (k : ℕ) (ws : List ℕ) → slice_get (states_of es) k ≡ Some ws → slice_get (states_of es') k ≡ Some ws
  put_stays from found n es es' put k ws at = subst (λ t. slice_get (states_of t) k ≡ Some ws) (sym put.grows) (states_stay es put.added k ws at)

module _ {L : Type 0} (can : L → List L → Type 0) (node : List L → List ℕ) (wanted : List L → Type 0) where
  -- nothing was looked at
  pub none_yet : (s : SearchSeen L) → s.looked ≡ 0 → NonePassed can node wanted s
  none_yet s none k g lt at path w = absurd (omega (arith, lt, none))

  module _ (eq : L → L → Bool) (cs : List ℕ) (es es' : List (List ℕ × Option (Came L))) (fs gs : List (First L)) (s : SearchSeen L)
      (is : search_seen es fs cs ≡ s) (u : IsUnder eq can node s) (none : NonePassed can node wanted s)
      (i : ℕ) (found : List (L × List ℕ)) (n : ℕ) (put : ArePut i found n es es') where
    under : IsUnder eq can node (search_seen es fs cs)
    under = subst (IsUnder eq can node) (sym is) u

    passed : NonePassed can node wanted (search_seen es fs cs)
    passed = subst (NonePassed can node wanted) (sym is) none

    -- one that was looked at has the same numbers as before
    before : (k : ℕ) (g : List L) → k < length cs → slice_get (states_of es') k ≡ Some (node g) → slice_get (states_of es) k ≡ Some (node g)
    before k g lt at =
        let within : length cs ≤ length (paths_of es) = under.paths.within in
        let long : length (map node (paths_of es)) ≡ length (paths_of es) = length-map (paths_of es) node in
        let all : length (states_of es) ≡ length (map node (paths_of es)) = ap length under.states in
        let t = there (states_of es) k (omega (arith, lt, within, long, all)) in
        t.1 ∙ ap Some (one_at (states_of es') k t.0 (node g) (put_stays i found n es es' put k t.0 t.1) at)

    -- states were added
    pub none_grown : NonePassed can node wanted (search_seen es' gs cs)
    none_grown k g lt at path w = passed k g lt (before k g lt at) path w

    -- and the next one was looked at, and isn't wanted
    pub none_more : (ws : List ℕ) → i ≡ length cs → slice_get (states_of es) i ≡ Some ws
        → ((g : List L) → IsPath can g → node g ≡ ws → wanted g → ⊥) → (c : ℕ) → NonePassed can node wanted (search_seen es' gs (cs ++ c ∷ []))
    none_more ws place here unwanted c k g lt at path w = by (cases_lt k (length cs))
      where
        by : (k < length cs) ⊎ (length cs ≤ k) → ⊥
        by (inl less) = none_grown k g less at path w
        by (inr ge) =
            let one : length (cs ++ c ∷ []) ≡ length cs + 1 = length_push cs c in
            let same : i ≡ k = omega (arith, lt, one, ge, place) in
            let stays : slice_get (states_of es') k ≡ Some ws
            = put_stays i found n es es' put k ws (subst (λ m. slice_get (states_of es) m ≡ Some ws) same here) in
            unwanted g path (sym (one_at (states_of es') k ws (node g) stays at)) w

  -- the state that is looked at next has these numbers
  pub next_is : (cs : List ℕ) (es : List (List ℕ × Option (Came L))) (fs : List (First L)) (s : SearchSeen L) → search_seen es fs cs ≡ s
      → (i : ℕ) (ws : List ℕ) → i ≡ s.looked → slice_get (states_of es) i ≡ Some ws → (g : List L) → IsNext node s g → node g ≡ ws
  next_is cs es fs s is i ws place here g next =
      let at : slice_get (states_of es) i ≡ Some (node g) =
      ap (λ t. slice_get t i) (ap (λ (t : SearchSeen L). t.states) is) ∙ (ap (λ m. slice_get s.states m) place ∙ next) in
      one_at (states_of es) i (node g) ws at here

-- at the end of a search
module _ {L : Type 0} (eq : L → L → Bool) (can : L → List L → Type 0) (node : List L → List ℕ) (wanted : List L → Type 0) (s : SearchSeen L)
    (u : IsUnder eq can node s) (none : NonePassed can node wanted s) where
  at_place : (k : ℕ) (g : List L) → k < s.looked → slice_get (map node s.paths) k ≡ Some (node g) → IsPath can g → wanted g → ⊥
  at_place k g lt at path w = none k g lt (ap (λ t. slice_get t k) u.states ∙ at) path w

  pub none_there : NoneWanted can wanted s.paths s.looked (cut_of s)
  none_there = none_wanted can node s.looked s.paths u.paths wanted at_place

  -- the next state is wanted
  pub nearest_there : s.looked < length s.paths → ((g : List L) → IsPath can g → IsNext node s g → wanted g)
      → IsNearest can wanted s.paths s.looked
  nearest_there lt met =
      let t = there s.paths s.looked lt in
      let next : IsNext node s t.0 = ap (λ x. slice_get x s.looked) u.states ∙ map_at node s.paths s.looked t.0 t.1 in
      is_nearest can node s.looked s.paths u.paths wanted at_place t.0 t.1 (met t.0 (u.paths.paths_are s.looked t.0 t.1) next)

module _ {L : Type 0} where
  -- the numbers of the state that is looked at next, by what is seen of the search
  pub here : (es : List (List ℕ × Option (Came L))) (fs : List (First L)) (cs : List ℕ) (s : SearchSeen L) → search_seen es fs cs ≡ s
      → (i : ℕ) (ws : List ℕ) → i ≡ s.looked → slice_get s.states s.looked ≡ Some ws → slice_get (states_of es) i ≡ Some ws
  here es fs cs s is i ws place at =
      ap (λ (t : SearchSeen L). slice_get t.states i) is ∙ (ap (λ m. slice_get s.states m) place ∙ at)
