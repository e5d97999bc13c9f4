-- Tables each row of which is made canonical by itself, and a change of one of their rows.
use Rattle.std.proofs.Common.{◌≡◌, Bool, true, false, cond, Option, Some, None, List, [], ◌∷◌, option_map, refl, sym, ap, subst, ◌∙◌}
use Rattle.irq_base.specs.declared.numbers.DevNo.{DevNo}
use Rattle.irq_model.specs.Kinds.{same_dev}
use Rattle.irq_model.proofs.Same.{dev_from_same}
use Rattle.device_table.specs.Rows.{at, put, change, changed, HasOwnKeys}
use Rattle.line_futures.specs.Canon.{each_row}

-- ---- a change of one value, as a walk

module _ {R : Type 0} where
  unfoldable pub walk : (R → R) → DevNo → List (DevNo × R) → List (DevNo × R)
  walk h d [] = []
  walk h d (e ∷ es) = cond (same_dev d e.0) ((e.0, h e.1) ∷ es) (e ∷ walk h d es)

  cons_changed : (h : R → R) (d : DevNo) (e : DevNo × R) (es : List (DevNo × R)) (o : Option R) → same_dev d e.0 ≡ false
      → changed h (e ∷ es) d o ≡ e ∷ changed h es d o
  cons_changed h d e es None is = refl
  cons_changed h d e es (Some r) is = ap (λ b. cond b ((e.0, h r) ∷ es) (e ∷ put es d (h r))) is

  pub walk_is : (h : R → R) (d : DevNo) (t : List (DevNo × R)) → change h t d ≡ walk h d t
  unfolding walk
  walk_is h d [] = refl
  walk_is h d (e ∷ es) = by_test (same_dev d e.0) refl (walk_is h d es)
    where
      by_test : (b : Bool) → same_dev d e.0 ≡ b → change h es d ≡ walk h d es
          → changed h (e ∷ es) d (cond b (Some e.1) (at es d)) ≡ cond b ((e.0, h e.1) ∷ es) (e ∷ walk h d es)
      by_test true is rest = ap (λ b. cond b ((e.0, h e.1) ∷ es) (e ∷ put es d (h e.1))) is
      by_test false is rest = cons_changed h d e es (at es d) is ∙ ap (λ (t : List (DevNo × R)). e ∷ t) rest

  -- a device's row is made of its row
  pub each_at : (f : DevNo → R → R) (a : List (DevNo × R)) (d : DevNo) → at (each_row f a) d ≡ option_map (f d) (at a d)
  each_at f [] d = refl
  each_at f (e ∷ es) d = by_test (same_dev d e.0) refl (each_at f es d)
    where
      by_test : (b : Bool) → same_dev d e.0 ≡ b → at (each_row f es) d ≡ option_map (f d) (at es d)
          → cond b (Some (f e.0 e.1)) (at (each_row f es) d) ≡ option_map (f d) (cond b (Some e.1) (at es d))
      by_test true is rest = ap (λ (x : DevNo). Some (f x e.1)) (sym (dev_from_same d e.0 is))
      by_test false is rest = rest

-- ---- rows made canonical twice: by what is known before an entry, and by what is known after it

module _ {R : Type 0} (low new : DevNo → R → R) where
  abbrev pub Same : R → R → DevNo → Type 0
  Same q r x = new x q ≡ new x r

  pub all_same : (a : List (DevNo × R)) → ((x : DevNo) (r : R) → Same (low x r) r x) → each_row new (each_row low a) ≡ each_row new a
  all_same [] one = refl
  all_same (e ∷ es) one =
      ap (λ (r : R). (e.0, r) ∷ each_row new (each_row low es)) (one e.0 e.1)
      ∙ ap (λ (x : List (DevNo × R)). (e.0, new e.0 e.1) ∷ x) (all_same es one)

  -- none of the rows is d's
  none_same : (d : DevNo) (a : List (DevNo × R)) → at a d ≡ None
      → ((x : DevNo) → same_dev d x ≡ false → (r : R) → Same (low x r) r x)
      → each_row new (each_row low a) ≡ each_row new a
  none_same d [] none one = refl
  none_same d (e ∷ es) none one = by_test (same_dev d e.0) refl none (λ n. none_same d es n one)
    where
      by_test : (b : Bool) → same_dev d e.0 ≡ b → cond b (Some e.1) (at es d) ≡ None
          → (at es d ≡ None → each_row new (each_row low es) ≡ each_row new es)
          → each_row new (each_row low (e ∷ es)) ≡ each_row new (e ∷ es)
      by_test true is n rest = cc
      by_test false is n rest =
          ap (λ (r : R). (e.0, r) ∷ each_row new (each_row low es)) (one e.0 is e.1)
          ∙ ap (λ (x : List (DevNo × R)). (e.0, new e.0 e.1) ∷ x) (rest n)

  walk_same : (f : R → R) (d : DevNo) (a : List (DevNo × R)) → HasOwnKeys a
      → ((x : DevNo) → same_dev d x ≡ false → (r : R) → Same (low x r) r x)
      → ((r : R) → Same (f (low d r)) (f r) d)
      → each_row new (walk f d (each_row low a)) ≡ each_row new (walk f d a)
  unfolding walk
  walk_same f d [] own other one = refl
  walk_same f d (e ∷ es) own other one = by_test (same_dev d e.0) refl (walk_same f d es own.1 other one)
    where
      by_test : (b : Bool) → same_dev d e.0 ≡ b → each_row new (walk f d (each_row low es)) ≡ each_row new (walk f d es)
          → each_row new (cond b ((e.0, f (low e.0 e.1)) ∷ each_row low es)
          ((e.0, low e.0 e.1) ∷ walk f d (each_row low es)))
          ≡ each_row new (cond b ((e.0, f e.1) ∷ es) (e ∷ walk f d es))
      by_test true is rest =
          let same : d ≡ e.0 = dev_from_same d e.0 is in
          let none : at es d ≡ None = ap (at es) same ∙ own.0 in
          let here : Same (f (low e.0 e.1)) (f e.1) e.0 = subst (λ (x : DevNo). Same (f (low x e.1)) (f e.1) x) same (one e.1) in
          ap (λ (r : R). (e.0, r) ∷ each_row new (each_row low es)) here
          ∙ ap (λ (x : List (DevNo × R)). (e.0, new e.0 (f e.1)) ∷ x) (none_same d es none other)
      by_test false is rest =
          ap (λ (r : R). (e.0, r) ∷ each_row new (walk f d (each_row low es))) (other e.0 is e.1)
          ∙ ap (λ (x : List (DevNo × R)). (e.0, new e.0 e.1) ∷ x) rest

  pub change_same : (f : R → R) (d : DevNo) (a : List (DevNo × R)) → HasOwnKeys a
      → ((x : DevNo) → same_dev d x ≡ false → (r : R) → Same (low x r) r x)
      → ((r : R) → Same (f (low d r)) (f r) d)
      → each_row new (change f (each_row low a) d) ≡ each_row new (change f a d)
  change_same f d a own other one =
      ap (each_row new) (walk_is f d (each_row low a)) ∙ (walk_same f d a own other one ∙ ap (each_row new) (sym (walk_is f d a)))
