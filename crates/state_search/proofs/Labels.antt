-- Labels are noted one by one.
use Rattle.std.proofs.Common.{◌≡◌, ◌≤◌, ◌<◌, ◌+◌, ℕ, zero, suc, inl, inr, ◌⊎◌, Bool, true, false, true≢false, IsTrue}
use Rattle.std.proofs.Common.{Option, Some, None, IfSome, IfNone, is_some, List, [], ◌∷◌, ◌++◌, length, slice_get, refl}
use Rattle.std.proofs.Common.{ap, sym, subst, ◌∙◌, arith, append_assoc}
use Rattle.std.proofs.lemmas.Bool.{cases_lt}
use Rattle.std.proofs.lemmas.List.{append-nil}
use Rattle.std.proofs.lemmas.Option.{none-some}
use Rattle.std.specs.Cmp.{IsEquivalence}
use Rattle.state_search.specs.declared.firsts.First.{First}
use Rattle.state_search.specs.Firsts.{IsNoted, IsNotedAt, AreApart}
use Rattle.state_search.specs.Growing.{AreNoted}
use Rattle.state_search.proofs.Places.{one_at, push_cases, at_old, at_seam}

module _ {L : Type 0} (eq : L → L → Bool) (place : ℕ) (found : List (L × List ℕ)) where
  pub note_none : (old : List (First L)) → AreNoted eq place found 0 old old
  note_none old = record {
    added = [];
    grows = sym (append-nil old);
    each = λ k f at. absurd (none-some f at);
    all = λ m l words lt at. absurd (omega (arith, lt));
    apart = λ h. h;
  }

  at_next : (i m : ℕ) (l k : L) (ws words : List ℕ) → slice_get found i ≡ Some (l, ws) → m < i + 1 → i ≤ m → slice_get found m ≡ Some (k, words) → l ≡ k
  at_next i m l k ws words here lt ge at =
      let e : m ≡ i = omega (arith, lt, ge) in
      ap (λ t. t.0) (one_at found i (l, ws) (k, words) here (subst (λ n. slice_get found n ≡ Some (k, words)) e at))

  module _ (i : ℕ) (old mid : List (First L)) (n : AreNoted eq place found i old mid) (l : L) (ws : List ℕ) (here : slice_get found i ≡ Some (l, ws)) where
    pub note_known : IsNoted eq mid l → AreNoted eq place found (i + 1) old mid
    note_known is = record {
      added = n.added;
      grows = n.grows;
      each = n.each;
      all = λ m k words lt at. by m k words lt at (cases_lt m i);
      apart = n.apart;
    }
      where
        by : (m : ℕ) (k : L) (words : List ℕ) → m < i + 1 → slice_get found m ≡ Some (k, words) → (m < i) ⊎ (i ≤ m) → IsNoted eq mid k
        by m k words lt at (inl less) = n.all m k words less at
        by m k words lt at (inr ge) = subst (IsNoted eq mid) (at_next i m l k ws words here lt ge at) is

    pub note_new : IsEquivalence eq → (f : First L) → f.label ≡ l → f.place ≡ place → (IsNoted eq mid l → ⊥)
        → AreNoted eq place found (i + 1) old (mid ++ f ∷ [])
    note_new laws f label at_place unseen = record {
      added = n.added ++ f ∷ [];
      grows = ap (λ t. t ++ f ∷ []) n.grows ∙ append_assoc old n.added (f ∷ []);
      each = λ k g at. each k g (push_cases n.added f g k at);
      all = λ m k words lt at. by m k words lt at (cases_lt m i);
      apart = λ h j k a b x y e. apart (n.apart h) j k a b (push_cases mid f a j x) (push_cases mid f b k y) e;
    }
      where
        each : (k : ℕ) (g : First L) → (slice_get n.added k ≡ Some g) ⊎ ((k ≡ length n.added) × (f ≡ g))
            → (g.place ≡ place) × (m : ℕ) × (words : List ℕ) × (slice_get found m ≡ Some (g.label, words))
        each k g (inl a) = n.each k g a
        each k g (inr a) = (ap (λ t. t.place) (sym a.1) ∙ at_place, i, ws, here ∙ ap (λ t. Some (t, ws)) (sym label ∙ ap (λ t. t.label) a.1))

        stays : (k : L) → IsNoted eq mid k → IsNoted eq (mid ++ f ∷ []) k
        stays k x = (x.0, x.1, at_old mid (f ∷ []) x.0 x.1 x.2, x.3)

        by : (m : ℕ) (k : L) (words : List ℕ) → m < i + 1 → slice_get found m ≡ Some (k, words) → (m < i) ⊎ (i ≤ m) → IsNoted eq (mid ++ f ∷ []) k
        by m k words lt at (inl less) = stays k (n.all m k words less at)
        by m k words lt at (inr ge) = (
          length mid,
          f,
          at_seam mid f [],
          ap (eq f.label)
              (sym (at_next i m l k ws words here lt ge at) ∙ sym label) ∙ laws.refl f.label,
        )

        apart : AreApart eq mid → (j k : ℕ) (a b : First L) → (slice_get mid j ≡ Some a) ⊎ ((j ≡ length mid) × (f ≡ a))
            → (slice_get mid k ≡ Some b) ⊎ ((k ≡ length mid) × (f ≡ b))
            → eq a.label b.label ≡ true → j ≡ k
        apart h j k a b (inl x) (inl y) e = h j k a b x y e
        apart h j k a b (inl x) (inr y) e = absurd (unseen (j, a, x, ap (eq a.label) (sym label ∙ ap (λ t. t.label) y.1) ∙ e))
        apart h j k a b (inr x) (inl y) e = absurd (unseen (k, b, y, ap (eq b.label) (sym label ∙ ap (λ t. t.label) x.1) ∙ (laws.symm b.label a.label ∙ e)))
        apart h j k a b (inr x) (inr y) e = x.0 ∙ sym y.0

-- none of the first n labels is taken for the same
module _ {L : Type 0} (eq : L → L → Bool) (l : L) where
  abbrev pub NoneBefore : List (First L) → ℕ → Type 0
  NoneBefore fs n = (k : ℕ) (f : First L) → k < n → slice_get fs k ≡ Some f → eq f.label l ≡ false

  pub none_more : (fs : List (First L)) (n : ℕ) (f : First L) → slice_get fs n ≡ Some f → eq f.label l ≡ false → NoneBefore fs n → NoneBefore fs (n + 1)
  none_more fs n f at not' none = λ k g lt here. by k g lt here (cases_lt k n)
    where
      by : (k : ℕ) (g : First L) → k < n + 1 → slice_get fs k ≡ Some g → (k < n) ⊎ (n ≤ k) → eq g.label l ≡ false
      by k g lt here (inl less) = none k g less here
      by k g lt here (inr ge) =
          let e : k ≡ n = omega (arith, lt, ge) in
          ap (λ t. eq t.label l) (one_at fs n g f (subst (λ m. slice_get fs m ≡ Some g) e here) at) ∙ not'

  pub none_noted : (fs : List (First L)) (n : ℕ) → length fs ≤ n → NoneBefore fs n → IsNoted eq fs l → ⊥
  none_noted fs n all none x = true≢false (sym x.3 ∙ none x.0 x.1 (omega (arith, within fs x.0 x.1 x.2, all)) x.2)
    where
      within : (fs : List (First L)) (k : ℕ) (f : First L) → slice_get fs k ≡ Some f → k < length fs
      within [] k f at = absurd (none-some f at)
      within (g ∷ fs) zero f at = omega arith
      within (g ∷ fs) (suc k) f at = let r : k < length fs = within fs k f at in omega (arith, r)

  -- a look-up's answer as a test
  pub noted_is : (fs : List (First L)) (r : Option ℕ) → IfSome r (λ n. IsNotedAt eq fs l (λ m. m ≡ n)) → IfNone r (IsNoted eq fs l → ⊥)
      → (IsTrue (is_some r) → IsNoted eq fs l) × (IsNoted eq fs l → IsTrue (is_some r))
  noted_is fs None s n = (λ h. absurd (true≢false (sym h)), λ x. absurd (n x))
  noted_is fs (Some k) s n = (λ h. (s.0, s.1, s.2, s.3), λ x. refl)
