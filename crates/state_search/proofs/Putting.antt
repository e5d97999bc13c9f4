-- The states that one state leads to are added one by one.
use Rattle.std.proofs.Common.{◌≡◌, ◌≤◌, ◌<◌, ◌+◌, ℕ, inl, inr, ◌⊎◌, true, false, true≢false, Option, Some, List, []}
use Rattle.std.proofs.Common.{◌∷◌, ◌++◌, length, slice_get, refl, ap, sym, subst, ◌∙◌, arith, append_assoc}
use Rattle.std.proofs.lemmas.Bool.{cases_lt}
use Rattle.std.proofs.lemmas.List.{map-append, append-nil}
use Rattle.std.proofs.lemmas.Option.{none-some}
use Rattle.state_search.specs.declared.states.Came.{Came}
use Rattle.state_search.specs.Growing.{IsIn, IsPut, ArePut}
use Rattle.state_search.specs.Paths.{IsEachOnce, states_of}
use Rattle.state_search.proofs.Kept.{same_row}
use Rattle.state_search.proofs.Places.{one_at, push_cases, at_old, at_seam}

module _ {L : Type 0} (from : ℕ) (found : List (L × List ℕ)) where
  pub put_none : (old : List (List ℕ × Option (Came L))) → ArePut from found 0 old old
  put_none old = record {
    added = [];
    grows = sym (append-nil old);
    each = λ k e at. absurd (none-some e at);
    all = λ m l words lt at. absurd (omega (arith, lt));
    apart = λ h. h;
  }

  -- what was below the next place is below this one, or at it
  at_next : (i m : ℕ) (l k : L) (ws words : List ℕ) → slice_get found i ≡ Some (l, ws) → m < i + 1 → i ≤ m → slice_get found m ≡ Some (k, words) → ws ≡ words
  at_next i m l k ws words here lt ge at =
      let e : m ≡ i = omega (arith, lt, ge) in
      ap (λ t. t.1) (one_at found i (l, ws) (k, words) here (subst (λ n. slice_get found n ≡ Some (k, words)) e at))

  module _ (i : ℕ) (old mid : List (List ℕ × Option (Came L))) (put : ArePut from found i old mid) (l : L) (ws : List ℕ)
      (here : slice_get found i ≡ Some (l, ws)) where
    -- the state is known
    put_known : IsIn (states_of mid) ws → ArePut from found (i + 1) old mid
    put_known is = record {
      added = put.added;
      grows = put.grows;
      each = put.each;
      all = λ m k words lt at. by m k words lt at (cases_lt m i);
      apart = put.apart;
    }
      where
        by : (m : ℕ) (k : L) (words : List ℕ) → m < i + 1 → slice_get found m ≡ Some (k, words) → (m < i) ⊎ (i ≤ m) → IsIn (states_of mid) words
        by m k words lt at (inl less) = put.all m k words less at
        by m k words lt at (inr ge) = subst (IsIn (states_of mid)) (at_next i m l k ws words here lt ge at) is

    -- the state is new
    module _ (came : Came L) (is : came ≡ record { from = from; label = l }) where
      put_new : (IsIn (states_of mid) ws → ⊥) → ArePut from found (i + 1) old (mid ++ (ws, Some came) ∷ [])
      put_new unseen = record {
        added = put.added ++ (ws, Some came) ∷ [];
        grows = ap (λ t. t ++ (ws, Some came) ∷ []) put.grows ∙ append_assoc old put.added ((ws, Some came) ∷ []);
        each = λ k e at. each k e (push_cases put.added (ws, Some came) e k at);
        all = λ m k words lt at. by m k words lt at (cases_lt m i);
        apart = λ h j k x a b. apart (put.apart h) j k x (cases j x a) (cases k x b);
      }
        where
          split : states_of (mid ++ (ws, Some came) ∷ []) ≡ states_of mid ++ ws ∷ []
          split = map-append (λ (e : List ℕ × Option (Came L)). e.0) mid ((ws, Some came) ∷ [])

          each : (k : ℕ) (e : List ℕ × Option (Came L)) → (slice_get put.added k ≡ Some e) ⊎ ((k ≡ length put.added) × same_row (ws, Some came) e)
              → (m : ℕ) × (n : L) × (slice_get found m ≡ Some (n, e.0)) × (e.1 ≡ Some (record { from = from; label = n }))
          each k e (inl a) = put.each k e a
          each k e (inr a) = (i, l, here ∙ ap (λ t. Some (l, t.0)) a.1, ap (λ t. t.1) (sym a.1) ∙ ap Some is)

          stays : (words : List ℕ) → IsIn (states_of mid) words → IsIn (states_of (mid ++ (ws, Some came) ∷ [])) words
          stays words x = (x.0, ap (λ t. slice_get t x.0) split ∙ at_old (states_of mid) (ws ∷ []) x.0 words x.1)

          by : (m : ℕ) (k : L) (words : List ℕ) → m < i + 1 → slice_get found m ≡ Some (k, words) → (m < i) ⊎ (i ≤ m)
              → IsIn (states_of (mid ++ (ws, Some came) ∷ [])) words
          by m k words lt at (inl less) = stays words (put.all m k words less at)
          by m k words lt at (inr ge) = (
            length (states_of mid),
            ap (λ t. slice_get t (length (states_of mid))) split
                ∙ (at_seam (states_of mid) ws [] ∙ ap Some (at_next i m l k ws words here lt ge at)),
          )

          cases : (j : ℕ) (x : List ℕ) → slice_get (states_of (mid ++ (ws, Some came) ∷ [])) j ≡ Some x
              → (slice_get (states_of mid) j ≡ Some x) ⊎ ((j ≡ length (states_of mid)) × (ws ≡ x))
          cases j x a = push_cases (states_of mid) ws x j (ap (λ t. slice_get t j) (sym split) ∙ a)

          apart : IsEachOnce (states_of mid) → (j k : ℕ) (x : List ℕ) → (slice_get (states_of mid) j ≡ Some x) ⊎ ((j ≡ length (states_of mid)) × (ws ≡ x))
              → (slice_get (states_of mid) k ≡ Some x) ⊎ ((k ≡ length (states_of mid)) × (ws ≡ x)) → j ≡ k
          apart h j k x (inl a) (inl b) = h j k x a b
          apart h j k x (inl a) (inr b) = absurd (unseen (j, a ∙ ap Some (sym b.1)))
          apart h j k x (inr a) (inl b) = absurd (unseen (k, b ∙ ap Some (sym a.1)))
          apart h j k x (inr a) (inr b) = a.0 ∙ sym b.0

    pub put_next : (most : ℕ) (new : List (List ℕ × Option (Came L)))
        → IsPut (record { from = from; label = l }) ws most mid new true → ArePut from found (i + 1) old new
    put_next most new (inl a) = subst (ArePut from found (i + 1) old) (sym a.2) (put_known a.1)
    put_next most new (inr (inl a)) = absurd (true≢false a.0)
    put_next most new (inr (inr a)) = subst (ArePut from found (i + 1) old) (sym a.3) (put_new (record { from = from; label = l }) refl a.2)

-- how long the list is then
module _ {L : Type 0} (came : Came L) (ws : List ℕ) (most : ℕ) (mid new : List (List ℕ × Option (Came L))) where
  pub put_long : IsPut came ws most mid new true → length mid ≤ most → (length mid ≤ length new) × (length new ≤ most)
  put_long (inl a) few = (omega (arith, ap length a.2), omega (arith, ap length a.2, few))
  put_long (inr (inl a)) few = absurd (true≢false a.0)
  put_long (inr (inr a)) few =
      let n : length new ≡ length mid + 1 = ap length a.3 ∙ length_one mid in
      (omega (arith, n), omega (arith, n, few, a.1))
    where
      length_one : (xs : List (List ℕ × Option (Came L))) → length (xs ++ (ws, Some came) ∷ []) ≡ length xs + 1
      length_one [] = refl
      length_one (x ∷ xs) = let r : length (xs ++ (ws, Some came) ∷ []) ≡ length xs + 1 = length_one xs in omega (arith, r)

  -- it didn't fit
  pub put_refused : IsPut came ws most mid new false → IsIn (states_of new) ws → ⊥
  put_refused (inl a) is = absurd (true≢false (sym a.0))
  put_refused (inr (inl a)) is = a.2 (subst (λ (t : List (List ℕ × Option (Came L))). IsIn (states_of t) ws) a.3 is)
  put_refused (inr (inr a)) is = absurd (true≢false (sym a.0))
