-- The lowest of the devices with a row that pass.
use Rattle.std.proofs.Common.{◌≡◌, ℕ, ◌≤◌, Bool, true, false, cond, is_some, ltb, Option, Some, None, List, [], ◌∷◌, refl, sym, ap, subst, ◌∙◌, arith}
use Rattle.std.proofs.lemmas.Bool.{ltb-true, ltb-false, both_ways}
use Rattle.std.proofs.lemmas.Option.{same_Some}
use Rattle.irq_base.specs.declared.numbers.DevNo.{DevNo}
use Rattle.irq_model.specs.Kinds.{same_dev}
use Rattle.irq_model.proofs.Same.{same_self, dev_from_same}
use Rattle.device_table.specs.Rows.{at, has, lower, lowest_where, HasOwnKeys}
use Rattle.act_thread.specs.Threads.{row_passes}
use Rattle.act_thread.specs.declared.rows.ThreadRow.{ThreadRow}
use Rattle.line_state.specs.Seen.{lowest_of}

-- it was found, and isn't above d
abbrev pub Below : Option DevNo → DevNo → Type 0
Below None d = ⊥
Below (Some l) d = l.0 ≤ d.0

lower_first : (d : DevNo) (o : Option DevNo) → (lower d o).0 ≤ d.0
lower_first d None = omega arith
lower_first d (Some e) = by_test (ltb e.0 d.0) refl
  where
    by_test : (b : Bool) → ltb e.0 d.0 ≡ b → (cond b e d).0 ≤ d.0
    by_test true is = let less = ltb-true e.0 d.0 is in omega (arith, less)
    by_test false is = omega arith

lower_rest : (d x e : DevNo) → e.0 ≤ x.0 → (lower d (Some e)).0 ≤ x.0
lower_rest d x e below = by_test (ltb e.0 d.0) refl
  where
    by_test : (b : Bool) → ltb e.0 d.0 ≡ b → (cond b e d).0 ≤ x.0
    by_test true is = below
    by_test false is = let le = ltb-false e.0 d.0 is in omega (arith, le, below)

stays_below : (d x : DevNo) (o : Option DevNo) → Below o x → (lower d o).0 ≤ x.0
stays_below d x None below = absurd below
stays_below d x (Some e) below = lower_rest d x e below

-- ---- what stands behind the head

pub there_behind : (e : DevNo × ThreadRow) (es : List (DevNo × ThreadRow)) (d : DevNo) → has es d ≡ true → has (e ∷ es) d ≡ true
there_behind e es d h = by_test (same_dev d e.0)
  where
    by_test : (b : Bool) → is_some (cond b (Some e.1) (at es d)) ≡ true
    by_test true = refl
    by_test false = h

pub there_ahead : (e : DevNo × ThreadRow) (es : List (DevNo × ThreadRow)) → has (e ∷ es) e.0 ≡ true
there_ahead e es = ap (λ b. is_some (cond b (Some e.1) (at es e.0))) (same_self e.0)

at_behind : (e : DevNo × ThreadRow) (es : List (DevNo × ThreadRow)) (x : DevNo) (r : ThreadRow) → at es e.0 ≡ None → at es x ≡ Some r
    → at (e ∷ es) x ≡ Some r
at_behind e es x r own h = by_test (same_dev x e.0) refl
  where
    by_test : (b : Bool) → same_dev x e.0 ≡ b → cond b (Some e.1) (at es x) ≡ Some r
    by_test true is = let none : at es x ≡ None = ap (at es) (dev_from_same x e.0 is) ∙ own in cc
    by_test false is = h

at_ahead : (e : DevNo × ThreadRow) (es : List (DevNo × ThreadRow)) → at (e ∷ es) e.0 ≡ Some e.1
at_ahead e es = ap (λ b. cond b (Some e.1) (at es e.0)) (same_self e.0)

-- ---- it passes, and none that passes is below it

module _ (q : DevNo → Bool) where
  pub of_below : (t : List (DevNo × ThreadRow)) (d : DevNo) → has t d ≡ true → q d ≡ true → Below (lowest_of q t) d
  of_below [] d h k = cc
  of_below (e ∷ es) d h k = by_test (same_dev d e.0) refl h (of_below es d)
    where
      later : (b : Bool) → Below (lowest_of q es) d → Below (cond b (Some (lower e.0 (lowest_of q es))) (lowest_of q es)) d
      later true below = stays_below e.0 d (lowest_of q es) below
      later false below = below

      by_test : (b : Bool) → same_dev d e.0 ≡ b → is_some (cond b (Some e.1) (at es d)) ≡ true
          → (has es d ≡ true → q d ≡ true → Below (lowest_of q es) d)
          → Below (cond (q e.0) (Some (lower e.0 (lowest_of q es))) (lowest_of q es)) d
      by_test true is there rest =
          let same : d ≡ e.0 = dev_from_same d e.0 is in
          let num : d.0 ≡ e.0.0 = ap (λ (y : DevNo). y.0) same in
          let first = lower_first e.0 (lowest_of q es) in
          let passing : q e.0 ≡ true = ap q (sym same) ∙ k in
          subst (λ b. Below (cond b (Some (lower e.0 (lowest_of q es))) (lowest_of q es)) d) (sym passing) (omega (arith, first, num))
      by_test false is there rest = later (q e.0) (rest there k)

  pub of_passes : (t : List (DevNo × ThreadRow)) (x : DevNo) → lowest_of q t ≡ Some x → (has t x ≡ true) × (q x ≡ true)
  of_passes [] x h = cc
  of_passes (e ∷ es) x h = by_test (q e.0) refl h (lowest_of q es) refl (of_passes es)
    where
      behind : (has es x ≡ true) × (q x ≡ true) → (has (e ∷ es) x ≡ true) × (q x ≡ true)
      behind w = (there_behind e es x w.0, w.1)

      itself : q e.0 ≡ true → e.0 ≡ x → (has (e ∷ es) x ≡ true) × (q x ≡ true)
      itself is same = (ap (has (e ∷ es)) (sym same) ∙ there_ahead e es, ap q (sym same) ∙ is)

      by_lower : (b : Bool) (y : DevNo) → q e.0 ≡ true → lowest_of q es ≡ Some y → Some (cond b y e.0) ≡ Some x
          → ((z : DevNo) → lowest_of q es ≡ Some z → (has es z ≡ true) × (q z ≡ true)) → (has (e ∷ es) x ≡ true) × (q x ≡ true)
      by_lower true y is o k rest = let same : y ≡ x = same_Some y x k in behind (rest x (o ∙ ap Some same))
      by_lower false y is o k rest = itself is (same_Some e.0 x k)

      by_test : (b : Bool) → q e.0 ≡ b → cond b (Some (lower e.0 (lowest_of q es))) (lowest_of q es) ≡ Some x → (o : Option DevNo) → lowest_of q es ≡ o
          → ((z : DevNo) → lowest_of q es ≡ Some z → (has es z ≡ true) × (q z ≡ true)) → (has (e ∷ es) x ≡ true) × (q x ≡ true)
      by_test true is k None o rest = itself is (same_Some e.0 x (ap (λ p. Some (lower e.0 p)) (sym o) ∙ k))
      by_test true is k (Some y) o rest = by_lower (ltb y.0 e.0.0) y is o (ap (λ p. Some (lower e.0 p)) (sym o) ∙ k) rest
      by_test false is k _ o rest = behind (rest x k)

  pub of_none : (t : List (DevNo × ThreadRow)) → ((d : DevNo) → has t d ≡ true → q d ≡ false) → lowest_of q t ≡ None
  of_none t none = by_found (lowest_of q t) refl
    where
      by_found : (o : Option DevNo) → lowest_of q t ≡ o → lowest_of q t ≡ None
      by_found None is = is
      by_found (Some x) is = let w = of_passes t x is in absurd (both_ways (q x) (none x w.0) w.1)

  pub of_least : (t : List (DevNo × ThreadRow)) (d : DevNo) → has t d ≡ true → q d ≡ true
      → ((x : DevNo) → has t x ≡ true → q x ≡ true → d.0 ≤ x.0) → lowest_of q t ≡ Some d
  of_least t d there passes least = by_found (lowest_of q t) refl
    where
      below : Below (lowest_of q t) d
      below = of_below t d there passes

      by_found : (o : Option DevNo) → lowest_of q t ≡ o → lowest_of q t ≡ Some d
      by_found None is = absurd (subst (λ (o : Option DevNo). Below o d) is below)
      by_found (Some x) is =
          let w = of_passes t x is in
          let le : d.0 ≤ x.0 = least x w.0 w.1 in
          let ge : x.0 ≤ d.0 = subst (λ (o : Option DevNo). Below o d) is below in
          let num : x.0 ≡ d.0 = omega (arith, le, ge) in
          let same : x ≡ d = ap named num in
          is ∙ ap Some same
        where
          named : ℕ → DevNo
          named n = record { 0 = n }

-- the lowest of the rows that pass, by their devices
pub where_is_of : (p : ThreadRow → Bool) (t : List (DevNo × ThreadRow)) → HasOwnKeys t → lowest_where p t ≡ lowest_of (λ d. row_passes p false (at t d)) t
where_is_of p t own = by_rows t own (λ d. row_passes p false (at t d)) (λ d r is. ap (row_passes p false) is)
  where
    by_rows : (s : List (DevNo × ThreadRow)) → HasOwnKeys s → (q : DevNo → Bool) → ((d : DevNo) (r : ThreadRow) → at s d ≡ Some r → q d ≡ p r)
        → lowest_where p s ≡ lowest_of q s
    by_rows [] own q h = refl
    by_rows (e ∷ es) own q h =
        let rest : lowest_where p es ≡ lowest_of q es = by_rows es own.1 q (λ d r is. h d r (at_behind e es d r own.0 is)) in
        let here : p e.1 ≡ q e.0 = sym (h e.0 e.1 (at_ahead e es)) in
        ap (λ (o : Option DevNo). cond (p e.1) (Some (lower e.0 o)) o) rest
        ∙ ap (λ (b : Bool). cond b (Some (lower e.0 (lowest_of q es))) (lowest_of q es)) here
