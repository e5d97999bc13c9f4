-- Two lists whose last eight are compared, and then all of them from the front by eights.
use Rattle.std.proofs.Common.{◌≡◌, ℕ, List, ◌++◌, ◌-◌, ◌<◌, ◌≤◌, length, take, drop, sym, ap, ◌∙◌, arith}
use Rattle.std.proofs.lemmas.List.{append_assoc, append_cancel_left, length-append, take-append-drop, drop-append-le}

-- what is left of the two stands behind one beginning
abbrev pub AreLeft : List ℕ → List ℕ → List ℕ → List ℕ → Type 0
AreLeft a b rest_a rest_b = (begun : List ℕ) × (a ≡ begun ++ rest_a) × (b ≡ begun ++ rest_b)

module _ (a b rest_a rest_b : List ℕ) (left : AreLeft a b rest_a rest_b) where
  same_rests : a ≡ b → rest_a ≡ rest_b
  same_rests same = append_cancel_left left.0 rest_a rest_b (sym left.1 ∙ same ∙ left.2)

  -- the next eight differ
  pub differ : (eight_a eight_b : List ℕ) → eight_a ≡ take 8 rest_a → eight_b ≡ take 8 rest_b → (eight_a ≡ eight_b → ⊥) → a ≡ b → ⊥
  differ eight_a eight_b is_a is_b other same = other (is_a ∙ ap (take 8) (same_rests same) ∙ sym is_b)

  -- the next eight are the same
  pub goes_on : (eight_a eight_b after_a after_b : List ℕ) → eight_a ≡ take 8 rest_a → eight_b ≡ take 8 rest_b → after_a ≡ drop 8 rest_a
      → after_b ≡ drop 8 rest_b → eight_a ≡ eight_b → AreLeft a b after_a after_b
  goes_on eight_a eight_b after_a after_b is_a is_b behind_a behind_b same = (
    left.0 ++ eight_a,
    left.1 ∙ ap (λ l. left.0 ++ l) (joined rest_a eight_a after_a is_a behind_a) ∙ sym (append_assoc left.0 eight_a after_a),
    left.2 ∙ ap (λ l. left.0 ++ l) (joined rest_b eight_a after_b (same ∙ is_b) behind_b) ∙ sym (append_assoc left.0 eight_a after_b),
  )
    where
      joined : (rest eight after : List ℕ) → eight ≡ take 8 rest → after ≡ drop 8 rest → rest ≡ eight ++ after
      joined rest eight after is behind =
          sym (take-append-drop 8 rest) ∙ ap (λ l. l ++ drop 8 rest) (sym is) ∙ ap (λ l. eight ++ l) (sym behind)

  -- fewer than eight are left, and the last eight of both are the same
  pub all_same : length a ≡ length b → length rest_a < 8 → 8 ≤ length a → (last_a last_b : List ℕ)
      → last_a ≡ drop (length a - 8) a → last_b ≡ drop (length b - 8) b → last_a ≡ last_b → a ≡ b
  all_same long few enough last_a last_b is_a is_b same =
      left.1 ∙ ap (λ l. left.0 ++ l) (append_cancel_left (drop far left.0) rest_a rest_b ends) ∙ sym left.2
    where
      far : ℕ
      far = length a - 8

      behind : (x rest : List ℕ) → x ≡ left.0 ++ rest → drop far x ≡ drop far left.0 ++ rest
      behind x rest is =
          ap (drop far) is
          ∙ drop-append-le far left.0 rest (omega (arith, ap length left.1 ∙ length-append left.0 rest_a, few, enough))

      ends : drop far left.0 ++ rest_a ≡ drop far left.0 ++ rest_b
      ends = sym (behind a rest_a left.1) ∙ sym is_a ∙ same ∙ is_b ∙ ap (λ n. drop (n - 8) b) (sym long) ∙ behind b rest_b left.2
