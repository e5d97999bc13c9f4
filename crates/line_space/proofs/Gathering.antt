-- The drivers of the calls, gathered from the last call on.
use Rattle.std.proofs.Common.{◌≡◌, ℕ, ◌+◌, ◌-◌, ◌<◌, Bool, true, false, ◌||◌, cond, Some, List, [], ◌∷◌, ◌++◌, drop}
use Rattle.std.proofs.Common.{reverse, slice_get, refl, sym, ap, ◌∙◌, arith}
use Rattle.std.proofs.lemmas.List.{reverse-append}
use Rattle.std.specs.List.{list_any}
use Rattle.irq_base.specs.declared.calls.Call.{Call}
use Rattle.irq_base.specs.declared.numbers.DriverNo.{DriverNo}
use Rattle.irq_model.proofs.Lists.{next_item}
use Rattle.irq_model.specs.Kinds.{same_driver}
use Rattle.line_words.specs.Node.{drivers_in}

any_last : (p : DriverNo → Bool) (xs : List DriverNo) (x : DriverNo) → list_any p (xs ++ x ∷ []) ≡ (list_any p xs || p x)
any_last p [] x = by_test (p x)
  where
    by_test : (b : Bool) → (b || false) ≡ b
    by_test true = refl
    by_test false = refl
any_last p (y ∷ ys) x = by_test (p y) (any_last p ys x)
  where
    by_test : (b : Bool) → list_any p (ys ++ x ∷ []) ≡ (list_any p ys || p x) → (b || list_any p (ys ++ x ∷ [])) ≡ ((b || list_any p ys) || p x)
    by_test true h = refl
    by_test false h = h

turned : (a b : Bool) → (a || b) ≡ (b || a)
turned true true = refl
turned true false = refl
turned false true = refl
turned false false = refl

any_reverse : (p : DriverNo → Bool) (xs : List DriverNo) → list_any p (reverse xs) ≡ list_any p xs
any_reverse p [] = refl
any_reverse p (x ∷ xs) =
    ap (list_any p) (reverse-append (x ∷ []) xs)
    ∙ (any_last p (reverse xs) x ∙ (ap (λ b. b || p x) (any_reverse p xs) ∙ turned (list_any p xs) (p x)))

module _ (cs : List (DriverNo × Call)) (left : ℕ) (d : DriverNo) (call : Call) (some : 0 < left)
    (is : slice_get cs (left - 1) ≡ Some (d, call)) (xs : List DriverNo) (so_far : reverse xs ≡ drivers_in (drop left cs)) where
  more : drivers_in (drop (left - 1) cs) ≡ cond (list_any (same_driver d) xs) (reverse xs) (d ∷ reverse xs)
  more =
      let e : left - 1 + 1 ≡ left = omega (arith, some) in
      ap drivers_in (next_item cs (left - 1) (d, call) is)
      ∙ (ap (λ (n : ℕ). drivers_in ((d, call) ∷ drop n cs)) e
      ∙ (ap (λ (ds : List DriverNo). cond (list_any (same_driver d) ds) ds (d ∷ ds)) (sym so_far)
      ∙ ap (λ b. cond b (reverse xs) (d ∷ reverse xs)) (any_reverse (same_driver d) xs)))

  pub known : list_any (same_driver d) xs ≡ true → reverse xs ≡ drivers_in (drop (left - 1) cs)
  known there = sym (more ∙ ap (λ b. cond b (reverse xs) (d ∷ reverse xs)) there)

  pub new : (ys : List DriverNo) → ys ≡ xs ++ d ∷ [] → list_any (same_driver d) xs ≡ false → reverse ys ≡ drivers_in (drop (left - 1) cs)
  new ys pushed none =
      ap reverse pushed ∙ (reverse-append xs (d ∷ []) ∙ sym (more ∙ ap (λ b. cond b (reverse xs) (d ∷ reverse xs)) none))
