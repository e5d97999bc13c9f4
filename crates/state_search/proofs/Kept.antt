-- The map from numbers.
use Rattle.std.proofs.Common.{◌≡◌, ◌<◌, ℕ, zero, suc, inl, inr, ◌⊎◌, Bool, true, false, Option, Some, None, IfSome}
use Rattle.std.proofs.Common.{is_some, List, [], ◌∷◌, ◌++◌, length, slice_get, Vec, refl, ap, sym, subst, ◌∙◌}
use Rattle.std.specs.Map.{lookup}
use Rattle.std.specs.Str.{bytes_eq}
use Rattle.std.proofs.lemmas.List.{map-append}
use Rattle.std.proofs.lemmas.Map.Entries.{place_from_lookup, lookup_head, lookup_tail}
use Rattle.std.proofs.lemmas.Option.{none-some}
use Rattle.std.proofs.lemmas.Slice.Eq.{bytes_eq-Decides}
use Rattle.state_search.specs.declared.states.Came.{Came}
use Rattle.state_search.specs.Growing.{IsIn, AreRooted}
use Rattle.state_search.specs.Paths.{states_of}
use Rattle.state_search.specs.Packed.{IsPacked, unpacked}
use Rattle.state_search.specs.Rows.{rows_of, ArePacked}
use Rattle.state_search.proofs.Bytes.{same_key}
use Rattle.state_search.proofs.Places.{same_some, push_cases, map_at, map_from}

-- the key is these bytes
abbrev pub is_key : {Z : Type 0} → List ℕ → Vec ℕ Z → Bool
is_key bytes k = bytes_eq bytes k.items

abbrev pub same_row : {L : Type 0} → (a b : List ℕ × Option (Came L)) → Type 0
same_row a b = a ≡ b

-- an entry of the map, and the row that it stands for
abbrev Entry : Type 0 → Type 0 → Type 0
Entry L Z = Vec ℕ Z × Option (Came L)

abbrev row_of : {L Z : Type 0} → Entry L Z → List ℕ × Option (Came L)
row_of e = (unpacked e.0.items, e.1)

module _ {L Z : Type 0} where
  pub row_at : (es : List (Entry L Z)) (k : ℕ) (w : Vec ℕ Z) (v : Option (Came L))
      → slice_get es k ≡ Some (w, v) → slice_get (rows_of es) k ≡ Some (unpacked w.items, v)
  row_at es k w v at = map_at row_of es k (w, v) at

  pub words_at : (es : List (Entry L Z)) (k : ℕ) (w : Vec ℕ Z) (v : Option (Came L))
      → slice_get es k ≡ Some (w, v) → slice_get (states_of (rows_of es)) k ≡ Some (unpacked w.items)
  words_at es k w v at =
      map_at (λ (e : List ℕ × Option (Came L)). e.0) (rows_of es) k (unpacked w.items, v) (row_at es k w v at)

  pub has_yes : (es : List (Entry L Z)) (bytes : List ℕ) → is_some (lookup (is_key bytes) es) ≡ true
      → IsIn (states_of (rows_of es)) (unpacked bytes)
  has_yes es bytes h = by (lookup (is_key bytes) es) refl
    where
      by : (o : Option (Option (Came L))) → lookup (is_key bytes) es ≡ o → IsIn (states_of (rows_of es)) (unpacked bytes)
      by None e = let never : ⊥ = cc in absurd never
      by (Some v) e =
          let p = place_from_lookup (is_key bytes) es v e in
          (p.0, words_at es p.0 p.1 v p.2 ∙ ap (λ t. Some (unpacked t)) (sym ((bytes_eq-Decides bytes p.1.items).0 p.3)))

  passes : (test : Vec ℕ Z → Bool) (es : List (Entry L Z)) (k : ℕ) (x : Entry L Z)
      → slice_get es k ≡ Some x → test x.0 ≡ true → is_some (lookup test es) ≡ true
  passes test [] k x at h = absurd (none-some x at)
  passes test (e ∷ es) zero x at h = ap is_some (lookup_head test e es (ap (λ t. test t.0) (same_some e x at) ∙ h))
  passes test (e ∷ es) (suc k) x at h = by (test e.0) refl (passes test es k x at h)
    where
      by : (b : Bool) → test e.0 ≡ b → is_some (lookup test es) ≡ true → is_some (lookup test (e ∷ es)) ≡ true
      by true b rest = ap is_some (lookup_head test e es b)
      by false b rest = ap is_some (lookup_tail test e es b) ∙ rest

  pub has_no : (es : List (Entry L Z)) (bytes : List ℕ) → ArePacked es → IsPacked bytes
      → IsIn (states_of (rows_of es)) (unpacked bytes) → is_some (lookup (is_key bytes) es) ≡ true
  has_no es bytes keys packed at =
      let r = map_from (λ (e : List ℕ × Option (Came L)). e.0) (rows_of es) at.0 (unpacked bytes) at.1 in
      let x = map_from row_of es at.0 r.0 r.1 in
      let key = same_key x.0.0.items bytes (keys at.0 x.0 x.1) packed (ap (λ t. t.0) x.2 ∙ r.2) in
      passes (is_key bytes) es at.0 x.0 x.1 ((bytes_eq-Decides bytes x.0.0.items).1 (sym key))

  pub has_none : (es : List (Entry L Z)) (bytes : List ℕ) → (IsIn (states_of (rows_of es)) (unpacked bytes) → ⊥)
      → lookup (is_key bytes) es ≡ None
  has_none es bytes unseen = by (lookup (is_key bytes) es) refl
    where
      by : (o : Option (Option (Came L))) → lookup (is_key bytes) es ≡ o → lookup (is_key bytes) es ≡ None
      by None e = e
      by (Some v) e = absurd (unseen (has_yes es bytes (ap is_some e)))

  pub rows_push : (es : List (Entry L Z)) (w : Vec ℕ Z) (v : Option (Came L)) (bytes : List ℕ)
      → w.items ≡ bytes → rows_of (es ++ (w, v) ∷ []) ≡ rows_of es ++ (unpacked bytes, v) ∷ []
  rows_push es w v bytes is = map-append row_of es ((w, v) ∷ [])
      ∙ ap (λ t. rows_of es ++ (unpacked t, v) ∷ []) is

  -- one more key
  pub packed_push : (es : List (Entry L Z)) (w : Vec ℕ Z) (v : Option (Came L)) → ArePacked es → IsPacked w.items
      → ArePacked (es ++ (w, v) ∷ [])
  packed_push es w v keys packed = λ k e at. by k e (push_cases es (w, v) e k at)
    where
      by : (k : ℕ) (e : Entry L Z) → (slice_get es k ≡ Some e) ⊎ ((k ≡ length es) × ((w, v) ≡ e)) → IsPacked e.0.items
      by k e (inl a) = keys k e a
      by k e (inr a) = subst (λ (x : Entry L Z). IsPacked x.0.items) a.1 packed

module _ {L : Type 0} where
  pub rooted_push : (es : List (List ℕ × Option (Came L))) (ws : List ℕ) (v : Option (Came L)) → AreRooted es
      → IfSome v (λ c. c.from < length es) → AreRooted (es ++ (ws, v) ∷ [])
  rooted_push es ws v r low = λ k words c at. by k words c (push_cases es (ws, v) (words, Some c) k at)
    where
      by : (k : ℕ) (words : List ℕ) (c : Came L) → (slice_get es k ≡ Some (words, Some c)) ⊎ ((k ≡ length es) × same_row (ws, v) (words, Some c)) → c.from < k
      by k words c (inl a) = r k words c a
      by k words c (inr a) =
          let is : v ≡ Some c = ap (λ t. t.1) a.1 in
          let below : c.from < length es = subst (λ o. IfSome o (λ c. c.from < length es)) is low in
          subst (λ n. c.from < n) (sym a.0) below
