-- Actors, and lists of them.
use Rattle.std.proofs.Common.{◌≡◌, ◌⊎◌, Bool, true, false, not, cond, List, [], ◌∷◌, ◌++◌, refl, sym, ap, ◌∙◌, inl, inr}
use Rattle.std.proofs.lemmas.Bool.{false≢true}
use Rattle.irq_base.specs.declared.entries.Actor.{Actor}
use Rattle.irq_model.specs.Kinds.{same_actor}
use Rattle.irq_model.proofs.Same.{same_self_actor, actor_from_same}
use Rattle.line_lock.specs.Knows.{is_among, without}

-- either the same, or tested as others
pub same_or_not : (a b : Actor) → (a ≡ b) ⊎ (same_actor a b ≡ false)
same_or_not a b = by_test (same_actor a b) refl
  where
    by_test : (t : Bool) → same_actor a b ≡ t → (a ≡ b) ⊎ (same_actor a b ≡ false)
    by_test true is = inl (actor_from_same a b is)
    by_test false is = inr is

pub apart_from : (a b : Actor) → same_actor a b ≡ false → a ≡ b → ⊥
apart_from a b is same = false≢true (sym is ∙ (ap (λ x. same_actor a x) (sym same) ∙ same_self_actor a))

pub differs : (a b : Actor) → (a ≡ b → ⊥) → same_actor a b ≡ false
differs a b apart = elim (same_or_not a b) [ inl e ↦ absurd (apart e) | inr e ↦ e ]

-- ---- one more at the end

pub among_snoc : (who a : Actor) (all : List Actor) → is_among who (all ++ a ∷ []) ≡ cond (is_among who all) true (same_actor who a)
among_snoc who a [] = by_test (same_actor who a)
  where
    by_test : (t : Bool) → cond t true false ≡ t
    by_test true = refl
    by_test false = refl
among_snoc who a (b ∷ rest) = by_test (among_snoc who a rest) (same_actor who b)
  where
    by_test : is_among who (rest ++ a ∷ []) ≡ cond (is_among who rest) true (same_actor who a) → (t : Bool)
        → cond t true (is_among who (rest ++ a ∷ [])) ≡ cond (cond t true (is_among who rest)) true (same_actor who a)
    by_test then true = refl
    by_test then false = then

pub among_old : (who a : Actor) (all : List Actor) → is_among who all ≡ true → is_among who (all ++ a ∷ []) ≡ true
among_old who a all is = among_snoc who a all ∙ ap (λ t. cond t true (same_actor who a)) is

pub among_new : (a : Actor) (all : List Actor) → is_among a (all ++ a ∷ []) ≡ true
among_new a all = among_snoc a a all ∙ by_test (is_among a all) (same_self_actor a)
  where
    by_test : (t : Bool) → same_actor a a ≡ true → cond t true (same_actor a a) ≡ true
    by_test true is = refl
    by_test false is = is

pub among_either : (who a : Actor) (all : List Actor) → is_among who (all ++ a ∷ []) ≡ true → (is_among who all ≡ true) ⊎ (who ≡ a)
among_either who a all is = by_test (is_among who all) refl (sym (among_snoc who a all) ∙ is)
  where
    by_test : (t : Bool) → is_among who all ≡ t → cond t true (same_actor who a) ≡ true → (is_among who all ≡ true) ⊎ (who ≡ a)
    by_test true there e = inl there
    by_test false there e = inr (actor_from_same who a e)

pub among_neither : (who a : Actor) (all : List Actor) → is_among who (all ++ a ∷ []) ≡ false → (is_among who all ≡ false) × (same_actor who a ≡ false)
among_neither who a all is = by_test (is_among who all) refl (sym (among_snoc who a all) ∙ is)
  where
    by_test : (t : Bool) → is_among who all ≡ t → cond t true (same_actor who a) ≡ false → (is_among who all ≡ false) × (same_actor who a ≡ false)
    by_test true there e = absurd (false≢true (sym e))
    by_test false there e = (there, e)

-- ---- without one

pub among_without : (who a : Actor) (all : List Actor) → is_among who (without a all) ≡ cond (same_actor a who) false (is_among who all)
among_without who a [] = by_test (same_actor a who)
  where
    by_test : (t : Bool) → false ≡ cond t false false
    by_test true = refl
    by_test false = refl
among_without who a (b ∷ rest) = by_tests (among_without who a rest) (same_actor a b) (same_actor who b) (same_actor a who) refl refl refl
  where
    by_tests : is_among who (without a rest) ≡ cond (same_actor a who) false (is_among who rest) → (s t u : Bool)
        → same_actor a b ≡ s → same_actor who b ≡ t → same_actor a who ≡ u
        → is_among who (cond (not s) (b ∷ without a rest) (without a rest)) ≡ cond u false (cond t true (is_among who rest))
    by_tests then true true true x y z = then ∙ ap (λ u. cond u false (is_among who rest)) z
    by_tests then true true false x y z = absurd (apart_from a who z (actor_from_same a b x ∙ sym (actor_from_same who b y)))
    by_tests then true false u x y z = then ∙ ap (λ v. cond v false (is_among who rest)) z
    by_tests then false true true x y z = absurd (apart_from a b x (actor_from_same a who z ∙ actor_from_same who b y))
    by_tests then false true false x y z = ap (λ v. cond v true (is_among who (without a rest))) y
    by_tests then false false u x y z = ap (λ v. cond v true (is_among who (without a rest))) y ∙ (then ∙ ap (λ v. cond v false (is_among who rest)) z)

pub still_among : (who a : Actor) (all : List Actor) → is_among who (without a all) ≡ true → (is_among who all ≡ true) × (same_actor a who ≡ false)
still_among who a all is = by_test (same_actor a who) refl (sym (among_without who a all) ∙ is)
  where
    by_test : (t : Bool) → same_actor a who ≡ t → cond t false (is_among who all) ≡ true → (is_among who all ≡ true) × (same_actor a who ≡ false)
    by_test true there e = absurd (false≢true e)
    by_test false there e = (e, there)

pub kept_among : (who a : Actor) (all : List Actor) → is_among who all ≡ true → same_actor a who ≡ false → is_among who (without a all) ≡ true
kept_among who a all is apart = among_without who a all ∙ (ap (λ t. cond t false (is_among who all)) apart ∙ is)

-- who isn't there any more wasn't there before, or is the one that went
pub gone : (who a : Actor) (all : List Actor) → is_among who (without a all) ≡ false → (is_among who all ≡ false) ⊎ (a ≡ who)
gone who a all is = by_test (same_actor a who) refl (sym (among_without who a all) ∙ is)
  where
    by_test : (t : Bool) → same_actor a who ≡ t → cond t false (is_among who all) ≡ false → (is_among who all ≡ false) ⊎ (a ≡ who)
    by_test true there e = inr (actor_from_same a who there)
    by_test false there e = inl e
