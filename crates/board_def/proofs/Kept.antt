-- The part of a list that a test keeps.
use Rattle.std.proofs.Common.{◌≡◌, ℕ, zero, suc, ◌+◌, ◌≤◌, Bool, true, false, cond, Some, None, List, [], ◌∷◌, ◌++◌}
use Rattle.std.proofs.Common.{length, filter, map, take, All, refl, sym, ap, subst, ◌∙◌, arith}
use Rattle.std.specs.List.{slice_get}
use Rattle.std.proofs.lemmas.List.{append-nil, append_assoc, take_more, take_all}
use Rattle.std.proofs.lemmas.List.Elements.{filter-append}
use Rattle.std.proofs.lemmas.Option.{slice_get_within, get_or_from_slice_get}
use Rattle.domain_rules.specs.Domains.{EachAfter}
use Rattle.domain_rules.proofs.EachAfters.{each_none, each_more}
use Rattle.board_def.proofs.Rising.{all_of}

module _ {A : Type 0} (P : List A → A → Type 0) (Q : List A → Type 0) (none : Q []) (more : (xs : List A) (x : A) → Q xs → P xs x → Q (xs ++ x ∷ [])) where
  goes_on : (done left : List A) → Q done → EachAfter (λ earlier x. P (done ++ earlier) x) left → Q (done ++ left)
  goes_on done [] q each = subst Q (sym (append-nil done)) q
  goes_on done (x ∷ xs) q each =
      let here : P done x = subst (λ earlier. P earlier x) (append-nil done) (each zero x refl) in
      let rest : EachAfter (λ earlier y. P ((done ++ x ∷ []) ++ earlier) y) xs =
      λ i y at. subst (λ earlier. P earlier y) (sym (append_assoc done (x ∷ []) (take i xs))) (each (suc i) y at) in
      subst Q (append_assoc done (x ∷ []) xs) (goes_on (done ++ x ∷ []) xs (more done x q here) rest)

  -- what holds of the empty list, and of one more item after the items before it
  pub by_one_more : (xs : List A) → EachAfter P xs → Q xs
  by_one_more xs each = goes_on [] xs none each

kept_more : {A : Type 0} (keep : A → Bool) (P : List A → A → Type 0) (xs : List A) (x : A) (b : Bool) → keep x ≡ b → EachAfter P (filter keep xs)
    → (b ≡ true → P (filter keep xs) x) → EachAfter P (filter keep (xs ++ x ∷ []))
kept_more keep P xs x true is each here =
    let e = filter-append keep xs (x ∷ []) ∙ ap (λ b. filter keep xs ++ cond b (x ∷ []) []) is in
    subst (EachAfter P) (sym e) (each_more P (filter keep xs) x each (here refl))
kept_more keep P xs x false is each here =
    let e = filter-append keep xs (x ∷ []) ∙ (ap (λ b. filter keep xs ++ cond b (x ∷ []) []) is ∙ append-nil (filter keep xs)) in
    subst (EachAfter P) (sym e) each

-- what a kept item meets after the kept ones before it
pub each_kept : {A : Type 0} (keep : A → Bool) (P R : List A → A → Type 0)
    → ((earlier : List A) (x : A) → EachAfter P earlier → keep x ≡ true → P earlier x → R (filter keep earlier) x)
    → (xs : List A) → EachAfter P xs → EachAfter R (filter keep xs)
each_kept {A} keep P R from xs each =
    let Both : List A → Type 0 = λ ys. EachAfter P ys × EachAfter R (filter keep ys) in
    let more : (ys : List A) (x : A) → Both ys → P ys x → Both (ys ++ x ∷ []) =
    λ ys x both here. (each_more P ys x both.0 here, kept_more keep R ys x (keep x) refl both.1 (λ k. from ys x both.0 k here)) in
    (by_one_more P Both (each_none P, each_none R) more xs each).1

-- each item that is kept
pub all_kept : {A B : Type 0} (keep : A → Bool) (f : A → B) (P : A → Type 0) (R : B → Type 0) → ((x : A) → P x → keep x ≡ true → R (f x))
    → (xs : List A) → ((i : ℕ) (x : A) → slice_get xs i ≡ Some x → P x) → All R (map f (filter keep xs))
all_kept keep f P R from [] each = λ k d h. absurd (omega arith)
all_kept {A} {B} keep f P R from (x ∷ xs) each = by (keep x) refl (all_kept keep f P R from xs (λ i y at. each (suc i) y at))
  where
    by : (b : Bool) → keep x ≡ b → All R (map f (filter keep xs)) → All R (map f (cond (keep x) (x ∷ filter keep xs) (filter keep xs)))
    by true is rest = subst (λ b. All R (map f (cond b (x ∷ filter keep xs) (filter keep xs)))) (sym is)
        (all_of R (f x) (map f (filter keep xs)) (from x (each zero x refl) is) rest)
    by false is rest = subst (λ b. All R (map f (cond b (x ∷ filter keep xs) (filter keep xs)))) (sym is) rest

pub kept_fewer : {A : Type 0} (keep : A → Bool) (xs : List A) → length (filter keep xs) ≤ length xs
kept_fewer keep [] = omega arith
kept_fewer keep (x ∷ xs) = by (keep x) (kept_fewer keep xs)
  where
    by : (b : Bool) → length (filter keep xs) ≤ length xs → length (cond b (x ∷ filter keep xs) (filter keep xs)) ≤ suc (length xs)
    by true rest = omega (arith, rest)
    by false rest = omega (arith, rest)

-- the part of one item more

pub kept_at : {A : Type 0} (keep : A → Bool) (xs : List A) (i : ℕ) (x : A) (b : Bool) → slice_get xs i ≡ Some x → keep x ≡ b
    → filter keep (take (i + 1) xs) ≡ filter keep (take i xs) ++ cond b (x ∷ []) []
kept_at keep xs i x b at is =
    let next : take (i + 1) xs ≡ take i xs ++ x ∷ [] =
    take_more xs i x (slice_get_within xs i x at) ∙ ap (λ y. take i xs ++ y ∷ []) (get_or_from_slice_get xs i x x at) in
    ap (filter keep) next ∙ (filter-append keep (take i xs) (x ∷ []) ∙ ap (λ b. filter keep (take i xs) ++ cond b (x ∷ []) []) is)

pub past : {A : Type 0} (xs : List A) (i : ℕ) → slice_get xs i ≡ None → length xs ≤ i
past [] i at = omega arith
past (x ∷ xs) zero at = absurd cc
past (x ∷ xs) (suc i) at = omega (arith, past xs i at)

pub kept_past : {A : Type 0} (keep : A → Bool) (xs : List A) (i : ℕ) → slice_get xs i ≡ None → filter keep (take (i + 1) xs) ≡ filter keep (take i xs)
kept_past keep xs i at =
    let all : length xs ≤ i = past xs i at in
    ap (filter keep) (take_all (i + 1) xs (omega arith) ∙ sym (take_all i xs all))
