-- Laws of the quantifier over places.
use Rattle.std.proofs.Common.{◌≡◌, Bool, true, false, ◌||◌, List, [], ◌∷◌, ◌++◌, cond, refl, ap, arith}
use Rattle.irq_model.specs.Places.{some_place}

pub or_mixed : (a b c d : Bool) → ((a || b) || (c || d)) ≡ ((a || c) || (b || d))
or_mixed a b c d = grind arith

module _ {A : Type 0} where
  pub some_ext : (P Q : List A → List A → Bool) (past : List A) → ((a u : List A) → a ++ u ≡ past → P a u ≡ Q a u) → some_place P past ≡ some_place Q past
  some_ext P Q [] h = refl
  some_ext P Q (e ∷ past) h =
      let here = h [] (e ∷ past) refl in
      let there = some_ext (λ a u. P (e ∷ a) u) (λ a u. Q (e ∷ a) u) past (λ a u is. h (e ∷ a) u (ap (λ xs. e ∷ xs) is)) in
      rw (here, there) refl

  pub some_none : (past : List A) → some_place (λ a u. false) past ≡ false
  some_none [] = refl
  some_none (e ∷ past) = some_none past

  pub some_or : (P Q : List A → List A → Bool) (past : List A) → some_place (λ a u. P a u || Q a u) past ≡ (some_place P past || some_place Q past)
  some_or P Q [] = refl
  some_or P Q (e ∷ past) =
      rw (some_or (λ a u. P (e ∷ a) u) (λ a u. Q (e ∷ a) u) past)
      (or_mixed (P [] (e ∷ past)) (Q [] (e ∷ past)) (some_place (λ a u. P (e ∷ a) u) past)
      (some_place (λ a u. Q (e ∷ a) u) past))

  pub some_cond : (b : Bool) (P Q : List A → List A → Bool) (past : List A)
      → some_place (λ a u. cond b (P a u) (Q a u)) past ≡ cond b (some_place P past) (some_place Q past)
  some_cond true P Q past = refl
  some_cond false P Q past = refl
