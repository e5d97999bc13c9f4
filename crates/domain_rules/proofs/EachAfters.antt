-- Lists in which each item meets a condition that depends on the items before it.
use Rattle.std.proofs.Common.{◌≡◌, zero, suc, List, [], ◌∷◌, ◌++◌, refl, subst}
use Rattle.domain_rules.specs.Domains.{EachAfter}

-- a first item, and each other after it
pub each_first : {A : Type 0} (P : List A → A → Type 0) (z : A) (zs : List A) → P [] z → EachAfter (λ earlier y. P (z ∷ earlier) y) zs → EachAfter P (z ∷ zs)
each_first P z zs first rest zero y at = let same : z ≡ y = cc in subst (P []) same first
each_first P z zs first rest (suc i) y at = rest i y at

-- none
pub each_none : {A : Type 0} (P : List A → A → Type 0) → EachAfter P []
each_none P i x at = absurd cc

-- one more
pub each_more : {A : Type 0} (P : List A → A → Type 0) (xs : List A) (x : A) → EachAfter P xs → P xs x → EachAfter P (xs ++ x ∷ [])
each_more P [] x each last = each_first P x [] last (each_none (λ earlier y. P (x ∷ earlier) y))
each_more P (z ∷ zs) x each last =
    each_first P z (zs ++ x ∷ []) (each zero z refl) (each_more (λ earlier y. P (z ∷ earlier) y) zs x (λ i y at. each (suc i) y at) last)

-- the last item meets it after the others
pub each_last : {A : Type 0} (P : List A → A → Type 0) (xs : List A) (x : A) → EachAfter P (xs ++ x ∷ []) → P xs x
each_last P [] x each = each zero x refl
each_last P (z ∷ zs) x each = each_last (λ earlier y. P (z ∷ earlier) y) zs x (λ i y at. each (suc i) y at)
