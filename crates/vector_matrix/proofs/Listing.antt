-- Vectors, and lists of them.
use Rattle.std.proofs.Common.{◌≡◌, ◌⊎◌, ℕ, ◌+◌, ◌<◌, Bool, true, false, not, ◌||◌, cond, eqb, List, [], ◌∷◌, ◌++◌, refl}
use Rattle.std.proofs.Common.{sym, ap, ◌∙◌, subst, inl, inr, eq-eqb, eqb-true, arith}
use Rattle.std.proofs.lemmas.Bool.{false≢true, and_parts, and_from}
use Rattle.std.proofs.lemmas.List.Sums.{sum_by-cons, sum_by-append, sum_by_push}
use Rattle.vector_matrix.specs.declared.view.Vector.{Vector}
use Rattle.vector_matrix.specs.Vectors.{same_vector, is_in, count_of, without, unless_in}

pub same_self : (p : Vector) → same_vector p p ≡ true
same_self p = and_from (eqb p.cpu.0 p.cpu.0) (eqb p.number p.number) (eq-eqb p.cpu.0 p.cpu.0 refl) (eq-eqb p.number p.number refl)

pub from_same : (p q : Vector) → same_vector p q ≡ true → p ≡ q
from_same p q h =
    let both = and_parts (eqb p.cpu.0 q.cpu.0) (eqb p.number q.number) h in
    let named : ℕ → ℕ → Vector = λ c n. record { cpu = record { 0 = c }; number = n } in
    ap (λ c. named c p.number) (eqb-true p.cpu.0 q.cpu.0 both.0) ∙ ap (named q.cpu.0) (eqb-true p.number q.number both.1)

-- how often p is the vector q: once, or never
pub one_of : Vector → Vector → ℕ
one_of p q = cond (same_vector p q) 1 0

pub one_same : (p q : Vector) → same_vector p q ≡ true → one_of p q ≡ 1
unfolding one_of
one_same p q is = ap (λ t. cond t 1 0) is

pub one_other : (p q : Vector) → same_vector p q ≡ false → one_of p q ≡ 0
unfolding one_of
one_other p q is = ap (λ t. cond t 1 0) is

pub count_cons : (p q : Vector) (all : List Vector) → count_of p (q ∷ all) ≡ one_of p q + count_of p all
unfolding one_of
count_cons p q all = sum_by-cons (λ x. cond (same_vector p x) 1 0) q all

pub count_push : (p q : Vector) (all : List Vector) → count_of p (all ++ q ∷ []) ≡ count_of p all + one_of p q
unfolding one_of
count_push p q all = sum_by_push (λ x. cond (same_vector p x) 1 0) all q

pub count_both : (p : Vector) (xs ys : List Vector) → count_of p (xs ++ ys) ≡ count_of p xs + count_of p ys
count_both p xs ys = sum_by-append (λ x. cond (same_vector p x) 1 0) xs ys

-- ---- in the list, and how often

pub in_counts : (p : Vector) (all : List Vector) → is_in p all ≡ true → 0 < count_of p all
in_counts p [] is = absurd (false≢true is)
in_counts p (q ∷ all) is = by_test (in_counts p all) (same_vector p q) refl is
  where
    by_test : (is_in p all ≡ true → 0 < count_of p all) → (t : Bool) → same_vector p q ≡ t → (t || is_in p all) ≡ true → 0 < count_of p (q ∷ all)
    by_test rest true e is = omega (arith, count_cons p q all, one_same p q e)
    by_test rest false e is = omega (arith, count_cons p q all, rest is)

pub not_counts : (p : Vector) (all : List Vector) → is_in p all ≡ false → count_of p all ≡ 0
not_counts p [] is = refl
not_counts p (q ∷ all) is = by_test (not_counts p all) (same_vector p q) refl is
  where
    by_test : (is_in p all ≡ false → count_of p all ≡ 0) → (t : Bool) → same_vector p q ≡ t → (t || is_in p all) ≡ false → count_of p (q ∷ all) ≡ 0
    by_test rest true e is = absurd (false≢true (sym is))
    by_test rest false e is = omega (arith, count_cons p q all, one_other p q e, rest is)

pub is_in_from : (p : Vector) (all : List Vector) → 0 < count_of p all → is_in p all ≡ true
is_in_from p all some = by_test (is_in p all) refl
  where
    by_test : (t : Bool) → is_in p all ≡ t → is_in p all ≡ true
    by_test true e = e
    by_test false e = absurd (omega (arith, not_counts p all e, some))

pub not_in_from : (p : Vector) (all : List Vector) → count_of p all ≡ 0 → is_in p all ≡ false
not_in_from p all none = by_test (is_in p all) refl
  where
    by_test : (t : Bool) → is_in p all ≡ t → is_in p all ≡ false
    by_test true e = absurd (omega (arith, in_counts p all e, none))
    by_test false e = e

-- ---- lists put together

pub in_either : (p : Vector) (xs ys : List Vector) → is_in p (xs ++ ys) ≡ (is_in p xs || is_in p ys)
in_either p [] ys = refl
in_either p (x ∷ xs) ys = ap (λ t. same_vector p x || t) (in_either p xs ys) ∙ by_test (same_vector p x)
  where
    by_test : (t : Bool) → (t || (is_in p xs || is_in p ys)) ≡ ((t || is_in p xs) || is_in p ys)
    by_test true = refl
    by_test false = refl

pub of_either : (s t : Bool) → (s || t) ≡ true → (s ≡ true) ⊎ (t ≡ true)
of_either true t is = inl refl
of_either false t is = inr is

pub in_one : (p : Vector) (xs ys : List Vector) → is_in p (xs ++ ys) ≡ true → (is_in p xs ≡ true) ⊎ (is_in p ys ≡ true)
in_one p xs ys is = of_either (is_in p xs) (is_in p ys) (sym (in_either p xs ys) ∙ is)

pub in_first : (p : Vector) (xs ys : List Vector) → is_in p xs ≡ true → is_in p (xs ++ ys) ≡ true
in_first p xs ys is = in_either p xs ys ∙ ap (λ t. t || is_in p ys) is

pub in_second : (p : Vector) (xs ys : List Vector) → is_in p ys ≡ true → is_in p (xs ++ ys) ≡ true
in_second p xs ys is = in_either p xs ys ∙ by_test (is_in p xs)
  where
    by_test : (t : Bool) → (t || is_in p ys) ≡ true
    by_test true = refl
    by_test false = is

-- the only one of a list of one
pub in_alone : (p q : Vector) → is_in p (q ∷ []) ≡ true → p ≡ q
in_alone p q is = elim (of_either (same_vector p q) false is) [ inl t ↦ from_same p q t | inr t ↦ absurd (false≢true t) ]

pub alone_in : (p : Vector) → is_in p (p ∷ []) ≡ true
alone_in p = ap (λ t. t || false) (same_self p)

-- what is put in unless it is there is there or is put in
pub in_or_put : (p : Vector) (all : List Vector) → (is_in p all ≡ true) ⊎ (is_in p (unless_in all p) ≡ true)
in_or_put p all = by_test (is_in p all) refl
  where
    by_test : (t : Bool) → is_in p all ≡ t → (is_in p all ≡ true) ⊎ (is_in p (unless_in all p) ≡ true)
    by_test true e = inl e
    by_test false e = inr (ap (λ t. is_in p (cond t [] (p ∷ []))) e ∙ alone_in p)

pub in_put : (p q : Vector) (all : List Vector) → is_in q (unless_in all p) ≡ true → q ≡ p
in_put p q all is = by_test (is_in p all) is
  where
    by_test : (t : Bool) → is_in q (cond t [] (p ∷ [])) ≡ true → q ≡ p
    by_test true e = absurd (false≢true e)
    by_test false e = in_alone q p e

-- ---- without one

pub count_without : (p : Vector) (all : List Vector) → count_of p (without p all) ≡ 0
count_without p [] = refl
count_without p (q ∷ all) = by_test (count_without p all) (same_vector p q) refl
  where
    by_test : count_of p (without p all) ≡ 0 → (t : Bool) → same_vector p q ≡ t → count_of p (cond (not t) (q ∷ without p all) (without p all)) ≡ 0
    by_test rest true e = rest
    by_test rest false e = omega (arith, count_cons p q (without p all), one_other p q e, rest)

-- one that is p isn't r, if p isn't
same_apart : (p q r : Vector) → same_vector p q ≡ true → same_vector p r ≡ false → same_vector r q ≡ false
same_apart p q r same apart = by_test (same_vector r q) refl
  where
    by_test : (t : Bool) → same_vector r q ≡ t → same_vector r q ≡ false
    by_test true is = absurd (false≢true (sym apart ∙ (ap (same_vector p) (from_same r q is) ∙ same)))
    by_test false is = is

pub count_others : (p r : Vector) (all : List Vector) → same_vector p r ≡ false → count_of r (without p all) ≡ count_of r all
count_others p r [] apart = refl
count_others p r (q ∷ all) apart = by_test (count_others p r all apart) (same_vector p q) refl
  where
    by_test : count_of r (without p all) ≡ count_of r all → (t : Bool) → same_vector p q ≡ t
        → count_of r (cond (not t) (q ∷ without p all) (without p all)) ≡ count_of r (q ∷ all)
    by_test rest true e = omega (arith, count_cons r q all, one_other r q (same_apart p q r e apart), rest)
    by_test rest false e = omega (arith, count_cons r q all, count_cons r q (without p all), rest)

-- what is left was there, and is another
pub in_without : (p r : Vector) (all : List Vector) → is_in r (without p all) ≡ true → (is_in r all ≡ true) × (same_vector p r ≡ false)
in_without p r all is = by_test (same_vector p r) refl
  where
    by_test : (t : Bool) → same_vector p r ≡ t → (is_in r all ≡ true) × (same_vector p r ≡ false)
    by_test true e =
        let none : count_of r (without p all) ≡ 0 = subst (λ x. count_of x (without p all) ≡ 0) (from_same p r e) (count_without p all) in
        absurd (omega (arith, none, in_counts r (without p all) is))
    by_test false e = (is_in_from r all (omega (arith, count_others p r all e, in_counts r (without p all) is)), e)

pub apart_both : (p q : Vector) → same_vector p q ≡ false → same_vector q p ≡ false
apart_both p q apart = by_test (same_vector q p) refl
  where
    by_test : (t : Bool) → same_vector q p ≡ t → same_vector q p ≡ false
    by_test true is = absurd (false≢true (sym apart ∙ (ap (same_vector p) (from_same q p is) ∙ same_self p)))
    by_test false is = is
