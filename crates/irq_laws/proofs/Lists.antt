-- Tests of the elements of a list.
use Rattle.std.proofs.Common.{◌≡◌, ℕ, ◌+◌, ◌⊎◌, inl, inr, Bool, true, false, not, ◌||◌, ◌&&◌, cond, List, [], ◌∷◌, filter, refl, sym, ◌∙◌, subst, arith}
use Rattle.std.specs.List.{list_any}
use Rattle.std.proofs.lemmas.Bool.{or_left, or_right}
use Rattle.irq_base.specs.declared.numbers.DevNo.{DevNo}
use Rattle.irq_base.specs.declared.numbers.DriverNo.{DriverNo}
use Rattle.irq_model.specs.Kinds.{same_dev, same_driver}
use Rattle.irq_model.proofs.Same.{same_self, same_self_driver}
use Rattle.irq_model.specs.Places.{some_place, count_of}

pub both_ways : {P : Type 0} (b : Bool) → b ≡ true → b ≡ false → P
both_ways b t f = let n = sym t ∙ f in cc

any_here : (a b c d : Bool) → (a || b) ≡ true → (a ≡ true → c ≡ true) → (b ≡ true → d ≡ true) → (c || d) ≡ true
any_here true b c d is h t = or_left c d (h refl)
any_here false b c d is h t = or_right c d (t is)

none_here : (b : Bool) (n : ℕ) → cond b (n + 1) n ≡ 0 → (b ≡ false) × (n ≡ 0)
none_here true n h = absurd (omega (arith, h))
none_here false n h = (refl, h)

-- one more entry, when something stands
pub stands_cases : (p q : Bool) (s : Bool) → (p || (not q && s)) ≡ true → (p ≡ true) ⊎ ((q ≡ false) × (s ≡ true))
stands_cases true q s h = inl refl
stands_cases false false s h = inr (refl, h)
stands_cases false true s h = inl h

differs_test : {P : Type 0} (b : Bool) → b ≡ true → not b ≡ true → P
differs_test true h n = cc
differs_test false h n = cc

-- a device isn't another than itself
pub differs_dev : {P : Type 0} (d x : DevNo) → d ≡ x → not (same_dev d x) ≡ true → P
differs_dev d x same differs = differs_test (same_dev d x) (subst (λ (y : DevNo). same_dev d y ≡ true) same (same_self d)) differs

pub differs_driver : {P : Type 0} (r s : DriverNo) → r ≡ s → not (same_driver r s) ≡ true → P
differs_driver r s same differs = differs_test (same_driver r s) (subst (λ (y : DriverNo). same_driver r y ≡ true) same (same_self_driver r)) differs

module _ {A : Type 0} where
  pub any_ext : (p q : A → Bool) (xs : List A) → ((x : A) → p x ≡ q x) → list_any p xs ≡ list_any q xs
  any_ext p q [] h = refl
  any_ext p q (x ∷ xs) h = rw (h x, any_ext p q xs h) refl

  pub any_imply : (p q : A → Bool) (xs : List A) → ((x : A) → p x ≡ true → q x ≡ true) → list_any p xs ≡ true → list_any q xs ≡ true
  any_imply p q [] h is = is
  any_imply p q (x ∷ xs) h is = any_here (p x) (list_any p xs) (q x) (list_any q xs) is (h x) (any_imply p q xs h)

  pub any_filter : (p q : A → Bool) (xs : List A) → list_any p (filter q xs) ≡ list_any (λ x. q x && p x) xs
  any_filter p q [] = refl
  any_filter p q (x ∷ xs) = at_head (q x) refl (any_filter p q xs)
    where
      at_head : (b : Bool) → q x ≡ b → list_any p (filter q xs) ≡ list_any (λ x. q x && p x) xs
          → list_any p (filter q (x ∷ xs)) ≡ list_any (λ x. q x && p x) (x ∷ xs)
      at_head true is h = rw (is, h) refl
      at_head false is h = rw (is, h) refl

  pub none_counted : (p : A → Bool) (xs : List A) → count_of p xs ≡ 0 → list_any p xs ≡ false
  none_counted p [] h = refl
  none_counted p (x ∷ xs) h = let n = none_here (p x) (count_of p xs) h in rw (n.0, none_counted p xs n.1) refl

  pub place_imply : (P Q : List A → List A → Bool) (past : List A) → ((a u : List A) → P a u ≡ true → Q a u ≡ true)
      → some_place P past ≡ true → some_place Q past ≡ true
  place_imply P Q [] h is = is
  place_imply P Q (e ∷ past) h is =
      any_here (P [] (e ∷ past)) _ (Q [] (e ∷ past)) _ is (h [] (e ∷ past)) (place_imply (λ a u. P (e ∷ a) u) (λ a u. Q (e ∷ a) u) past (λ a u. h (e ∷ a) u))
