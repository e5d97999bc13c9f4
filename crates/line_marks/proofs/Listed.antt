-- What is read off the list of actions, once its devices and flags are known.
use Rattle.std.proofs.Common.{◌≡◌, Bool, true, false, ◌||◌, ◌&&◌, cond, Option, Some, None, List, [], ◌∷◌, length, refl, ap, ◌∙◌, arith}
use Rattle.std.specs.List.{list_any}
use Rattle.irq_base.specs.declared.calls.Flags.{Flags}
use Rattle.irq_base.specs.declared.numbers.DevNo.{DevNo}
use Rattle.irq_model.specs.Kinds.{same_dev}
use Rattle.irq_model.specs.Links.{is_empty}
use Rattle.irq_model.specs.Next.{is_only, flags_differ}
use Rattle.act_list.specs.Actions.{is_bare, is_only_action, has, is_mismatch}
use Rattle.act_list.specs.Lists.{flags_of, first_left, begun_at}
use Rattle.act_list.specs.declared.actions.Action.{Action}
use Rattle.irq_model.proofs.Same.{same_self}
use Rattle.line_marks.specs.Actions.{flags_by}

abbrev pub first_by : (DevNo → Bool) → List DevNo → Option DevNo
first_by p [] = None
first_by p (d ∷ ds) = cond (p d) (first_by p ds) (Some d)

or_true : (a : Bool) → (a || true) ≡ true
or_true true = refl
or_true false = refl

same_head : {A : Type 0} (a b : A) (xs ys : List A) → a ∷ xs ≡ b ∷ ys → a ≡ b
same_head a b xs ys h = cc

same_tail : {A : Type 0} (a b : A) (xs ys : List A) → a ∷ xs ≡ b ∷ ys → xs ≡ ys
same_tail a b xs ys h = cc

module _ (f : DevNo → Flags) where
  abbrev Lists : List (DevNo × Action) → List DevNo → Type 0
  Lists t ds = flags_of t ≡ flags_by f ds

  dev_is : (e : DevNo × Action) (es : List (DevNo × Action)) (d : DevNo) (ds : List DevNo) → Lists (e ∷ es) (d ∷ ds) → e.0 ≡ d
  dev_is e es d ds h = ap (λ (p : DevNo × Flags). p.0) (same_head _ _ _ _ h)

  flags_is : (e : DevNo × Action) (es : List (DevNo × Action)) (d : DevNo) (ds : List DevNo) → Lists (e ∷ es) (d ∷ ds) → e.1.flags ≡ f d
  flags_is e es d ds h = ap (λ (p : DevNo × Flags). p.1) (same_head _ _ _ _ h)

  rest_is : (e : DevNo × Action) (es : List (DevNo × Action)) (d : DevNo) (ds : List DevNo) → Lists (e ∷ es) (d ∷ ds) → Lists es ds
  rest_is e es d ds h = same_tail _ _ _ _ h

  pub bare_of : (t : List (DevNo × Action)) (ds : List DevNo) → Lists t ds → is_bare t ≡ is_empty ds
  bare_of [] [] h = refl
  bare_of [] (d ∷ ds) h = cc
  bare_of (e ∷ es) [] h = cc
  bare_of (e ∷ es) (d ∷ ds) h = refl

  pub has_of : (x : DevNo) (t : List (DevNo × Action)) (ds : List DevNo) → Lists t ds → has x t ≡ list_any (same_dev x) ds
  has_of x [] [] h = refl
  has_of x [] (d ∷ ds) h = cc
  has_of x (e ∷ es) [] h = cc
  has_of x (e ∷ es) (d ∷ ds) h =
      ap (λ b. cond b true (has x es)) (ap (same_dev x) (dev_is e es d ds h)) ∙ by_test (same_dev x d) (has_of x es ds (rest_is e es d ds h))
    where
      by_test : (b : Bool) → has x es ≡ list_any (same_dev x) ds → cond b true (has x es) ≡ (b || list_any (same_dev x) ds)
      by_test true rest = refl
      by_test false rest = rest

  pub only_of : (x : DevNo) (t : List (DevNo × Action)) (ds : List DevNo) → Lists t ds → is_only_action x t ≡ is_only x ds
  only_of x [] [] h = refl
  only_of x [] (d ∷ ds) h = cc
  only_of x (e ∷ es) [] h = cc
  only_of x (e ∷ es) (d ∷ ds) h =
      ap (λ y. same_dev x y && is_bare es) (dev_is e es d ds h) ∙ ap (λ b. same_dev x d && b) (bare_of es ds (rest_is e es d ds h))

  pub many_of : (t : List (DevNo × Action)) (ds : List DevNo) → Lists t ds → length t ≡ length ds
  many_of [] [] h = refl
  many_of [] (d ∷ ds) h = cc
  many_of (e ∷ es) [] h = cc
  many_of (e ∷ es) (d ∷ ds) h = omega (arith, many_of es ds (rest_is e es d ds h))

  pub mismatch_of : (new : Flags) (t : List (DevNo × Action)) (ds : List DevNo) → Lists t ds → is_mismatch new t ≡ list_any (λ d. flags_differ new (f d)) ds
  mismatch_of new [] [] h = refl
  mismatch_of new [] (d ∷ ds) h = cc
  mismatch_of new (e ∷ es) [] h = cc
  mismatch_of new (e ∷ es) (d ∷ ds) h =
      ap (λ (g : Flags). flags_differ new g || is_mismatch new es) (flags_is e es d ds h)
      ∙ ap (λ b. flags_differ new (f d) || b) (mismatch_of new es ds (rest_is e es d ds h))

  -- the first that the code finds is the first whose handler wasn't called
  pub left_of : (p : DevNo → Bool) (begun : List (DevNo × Bool)) (t : List (DevNo × Action)) (ds : List DevNo)
      → Lists t ds → ((d : DevNo) → list_any (same_dev d) ds ≡ true → begun_at begun d ≡ p d)
      → first_left begun t ≡ first_by p ds
  left_of p begun [] [] h told = refl
  left_of p begun [] (d ∷ ds) h told = cc
  left_of p begun (e ∷ es) [] h told = cc
  left_of p begun (e ∷ es) (d ∷ ds) h told =
      ap (λ (y : DevNo). cond (begun_at begun y) (first_left begun es) (Some y)) (dev_is e es d ds h)
      ∙ (ap (λ b. cond b (first_left begun es) (Some d)) (told d (ap (λ b. b || list_any (same_dev d) ds) (same_self d)))
      ∙ ap (λ (o : Option DevNo). cond (p d) o (Some d))
      (left_of p begun es ds (rest_is e es d ds h)
      (λ x i. told x (ap (λ b. same_dev x d || b) i ∙ or_true (same_dev x d)))))
