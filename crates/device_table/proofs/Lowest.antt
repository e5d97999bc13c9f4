-- The lowest device whose value passes, by look-ups.
use Rattle.std.proofs.Common.{◌≡◌, ◌<◌, ◌≤◌, Bool, true, false, cond, nat_lt, Option, Some, None, List, [], ◌∷◌, refl, sym, ap, ◌∙◌, arith}
use Rattle.std.proofs.lemmas.Bool.{both_ways, lt-ltb, le-ltb, eqb-false}
use Rattle.irq_base.specs.declared.devices.DeviceDef.{DeviceDef}
use Rattle.irq_base.specs.declared.numbers.DevNo.{DevNo}
use Rattle.irq_model.specs.Kinds.{same_dev}
use Rattle.irq_model.specs.Valid.{HasDistinctDevices}
use Rattle.irq_model.proofs.Same.{same_self, dev_from_same}
use Rattle.device_table.specs.Rows.{at, put, table_by, lower, lowest_where, HasOwnKeys}
use Rattle.device_table.proofs.Tables.{at_none}

module _ {R : Type 0} where
  -- a table made of a line's devices has each number once
  pub own_by : (f : DevNo → R) (xs : List DeviceDef) → HasDistinctDevices xs → HasOwnKeys (table_by f xs)
  own_by f [] h = tt
  own_by f (x ∷ xs) h = (at_none f xs x.dev h.0, own_by f xs h.1)

  none_put : (t : List (DevNo × R)) (d e : DevNo) (r : R) → at t e ≡ None → at (put t d r) e ≡ None
  none_put [] d e r h = refl
  none_put (y ∷ ys) d e r h = by_tests (same_dev e y.0) (same_dev d y.0) refl h (none_put ys d e r)
    where
      by_tests : (a b : Bool) → same_dev e y.0 ≡ a → cond a (Some y.1) (at ys e) ≡ None
          → (at ys e ≡ None → at (put ys d r) e ≡ None) → at (cond b ((y.0, r) ∷ ys) (y ∷ put ys d r)) e ≡ None
      by_tests true b is i rest = cc
      by_tests false true is i rest = ap (λ c. cond c (Some r) (at ys e)) is ∙ i
      by_tests false false is i rest = ap (λ c. cond c (Some y.1) (at (put ys d r) e)) is ∙ rest i

  -- a value that changes leaves the numbers as they are
  pub own_put : (t : List (DevNo × R)) (d : DevNo) (r : R) → HasOwnKeys t → HasOwnKeys (put t d r)
  own_put [] d r h = tt
  own_put (e ∷ es) d r h = by_test (same_dev d e.0) (none_put es d e.0 r h.0) (own_put es d r h.1)
    where
      by_test : (b : Bool) → at (put es d r) e.0 ≡ None → HasOwnKeys (put es d r) → HasOwnKeys (cond b ((e.0, r) ∷ es) (e ∷ put es d r))
      by_test true none rest = h
      by_test false none rest = (none, rest)

  -- the value of the device that was put, and of another
  pub at_put_same : (t : List (DevNo × R)) (d : DevNo) (r old : R) → at t d ≡ Some old → at (put t d r) d ≡ Some r
  at_put_same [] d r old h = cc
  at_put_same (e ∷ es) d r old h = by_test (same_dev d e.0) refl h (at_put_same es d r old)
    where
      by_test : (b : Bool) → same_dev d e.0 ≡ b → cond b (Some e.1) (at es d) ≡ Some old
          → (at es d ≡ Some old → at (put es d r) d ≡ Some r) → at (cond b ((e.0, r) ∷ es) (e ∷ put es d r)) d ≡ Some r
      by_test true is i rest = ap (λ c. cond c (Some r) (at es d)) is
      by_test false is i rest = ap (λ c. cond c (Some e.1) (at (put es d r) d)) is ∙ rest i

  pub at_put_other : (t : List (DevNo × R)) (d x : DevNo) (r : R) → same_dev d x ≡ false → at (put t d r) x ≡ at t x
  at_put_other [] d x r h = refl
  at_put_other (e ∷ es) d x r h = by_tests (same_dev d e.0) (same_dev x e.0) refl refl (at_put_other es d x r h)
    where
      by_tests : (a b : Bool) → same_dev d e.0 ≡ a → same_dev x e.0 ≡ b → at (put es d r) x ≡ at es x
          → at (cond a ((e.0, r) ∷ es) (e ∷ put es d r)) x ≡ cond b (Some e.1) (at es x)
      by_tests true true p q rest = absurd (both_ways (same_dev d x) h (ap (λ (y : DevNo). same_dev d y) (dev_from_same x e.0 q) ∙ p))
      by_tests true false p q rest = ap (λ c. cond c (Some r) (at es x)) q
      by_tests false b p q rest = ap (λ c. cond c (Some e.1) (at (put es d r) x)) q ∙ ap (cond b (Some e.1)) rest

  -- what is found behind the head
  behind : (e : DevNo × R) (es : List (DevNo × R)) (x : DevNo) (r : R) → at es e.0 ≡ None → at es x ≡ Some r → at (e ∷ es) x ≡ Some r
  behind e es x r own h = by_test (same_dev x e.0) refl
    where
      by_test : (b : Bool) → same_dev x e.0 ≡ b → cond b (Some e.1) (at es x) ≡ Some r
      by_test true is = let none : at es x ≡ None = ap (at es) (dev_from_same x e.0 is) ∙ own in cc
      by_test false is = h

  ahead : (e : DevNo × R) (es : List (DevNo × R)) → at (e ∷ es) e.0 ≡ Some e.1
  ahead e es = ap (λ b. cond b (Some e.1) (at es e.0)) (same_self e.0)

  pub lowest_none : (p : R → Bool) (t : List (DevNo × R)) → HasOwnKeys t → ((x : DevNo) (r : R) → at t x ≡ Some r → p r ≡ false) → lowest_where p t ≡ None
  lowest_none p [] own none = refl
  lowest_none p (e ∷ es) own none =
      ap (λ b. cond b (Some (lower e.0 (lowest_where p es))) (lowest_where p es)) (none e.0 e.1 (ahead e es))
      ∙ lowest_none p es own.1 (λ x r h. none x r (behind e es x r own.0 h))

  -- the lowest passes
  lowest_passes : (p : R → Bool) (t : List (DevNo × R)) (x : DevNo) → HasOwnKeys t → lowest_where p t ≡ Some x → (r : R) × (at t x ≡ Some r) × (p r ≡ true)
  lowest_passes p [] x own h = cc
  lowest_passes p (e ∷ es) x own h = by_test (p e.1) refl h (lowest_where p es) refl (λ y k. lowest_passes p es y own.1 k)
    where
      of_rest : ((r : R) × (at es x ≡ Some r) × (p r ≡ true)) → (r : R) × (at (e ∷ es) x ≡ Some r) × (p r ≡ true)
      of_rest w = (w.0, behind e es x w.0 own.0 w.1, w.2)

      itself : p e.1 ≡ true → e.0 ≡ x → (r : R) × (at (e ∷ es) x ≡ Some r) × (p r ≡ true)
      itself is same = (e.1, ap (at (e ∷ es)) (sym same) ∙ ahead e es, is)

      by_lower : (b : Bool) (y : DevNo) → p e.1 ≡ true → lowest_where p es ≡ Some y → Some (cond b y e.0) ≡ Some x
          → ((z : DevNo) → lowest_where p es ≡ Some z → (r : R) × (at es z ≡ Some r) × (p r ≡ true))
          → (r : R) × (at (e ∷ es) x ≡ Some r) × (p r ≡ true)
      by_lower true y is o k rest = let same : y ≡ x = cc in of_rest (rest x (o ∙ ap Some same))
      by_lower false y is o k rest = let same : e.0 ≡ x = cc in itself is same

      by_test : (b : Bool) → p e.1 ≡ b → cond b (Some (lower e.0 (lowest_where p es))) (lowest_where p es) ≡ Some x → (o : Option DevNo) → lowest_where p es ≡ o
          → ((z : DevNo) → lowest_where p es ≡ Some z → (r : R) × (at es z ≡ Some r) × (p r ≡ true)) → (r : R) × (at (e ∷ es) x ≡ Some r) × (p r ≡ true)
      by_test true is k None o rest = let l : lower e.0 (lowest_where p es) ≡ e.0 = ap (lower e.0) o in let same : e.0 ≡ x = cc in itself is same
      by_test true is k (Some y) o rest = by_lower (nat_lt y.0 e.0.0) y is o (ap (λ z. Some (lower e.0 z)) (sym o) ∙ k) rest
      by_test false is k _ o rest = of_rest (rest x k)

  -- a device that passes, with none that passes below it
  pub lowest_is : (p : R → Bool) (t : List (DevNo × R)) (d : DevNo) (old : R) → HasOwnKeys t → at t d ≡ Some old
      → p old ≡ true → ((x : DevNo) (r : R) → at t x ≡ Some r → p r ≡ true → d.0 ≤ x.0) → lowest_where p t ≡ Some d
  lowest_is p [] d old own there is least = cc
  lowest_is p (e ∷ es) d old own there is least =
      by_test (same_dev d e.0) refl there (λ found. lowest_is p es d old own.1 found is
      (λ x r h q. least x r (behind e es x r own.0 h) q)) (lowest_where p es) refl
    where
      here : d ≡ e.0 → (o : Option DevNo) → lowest_where p es ≡ o → Some (lower e.0 o) ≡ Some d
      here same None o = ap Some (sym same)
      here same (Some y) o =
          let w = lowest_passes p es y own.1 o in
          let le : d.0 ≤ y.0 = least y w.0 (behind e es y w.0 own.0 w.1) w.2 in
          let num : d.0 ≡ e.0.0 = ap (λ (z : DevNo). z.0) same in
          ap (λ b. Some (cond b y e.0)) (le-ltb y.0 e.0.0 (omega (arith, le, num))) ∙ ap Some (sym same)

      later : (b : Bool) → p e.1 ≡ b → same_dev d e.0 ≡ false → lowest_where p es ≡ Some d
          → cond b (Some (lower e.0 (lowest_where p es))) (lowest_where p es) ≡ Some d
      later true q other o =
          let le : d.0 ≤ e.0.0 = least e.0 e.1 (ahead e es) q in
          let ne : d.0 ≡ e.0.0 → ⊥ = eqb-false d.0 e.0.0 other in
          ap (λ z. Some (lower e.0 z)) o ∙ ap (λ b. Some (cond b d e.0)) (lt-ltb d.0 e.0.0 (omega (arith, le, ne)))
      later false q other o = o

      by_test : (b : Bool) → same_dev d e.0 ≡ b → cond b (Some e.1) (at es d) ≡ Some old
          → (at es d ≡ Some old → lowest_where p es ≡ Some d) → (o : Option DevNo) → lowest_where p es ≡ o
          → cond (p e.1) (Some (lower e.0 (lowest_where p es))) (lowest_where p es) ≡ Some d
      by_test true same k rest o eq =
          let row : e.1 ≡ old = cc in
          let num : d ≡ e.0 = dev_from_same d e.0 same in
          ap (λ b. cond b (Some (lower e.0 (lowest_where p es))) (lowest_where p es)) (ap p row ∙ is) ∙ (ap (λ z. Some (lower e.0 z)) eq ∙ here num o eq)
      by_test false other k rest o eq = later (p e.1) refl other (rest k)
