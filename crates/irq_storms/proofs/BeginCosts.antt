-- The runs of handlers that begin are paid by the rounds: a round begins each device's once at most.
use Rattle.std.proofs.Common.{◌≡◌, ℕ, suc, ◌+◌, ◌*◌, ◌≤◌, Bool, true, false, not, ◌||◌, ◌&&◌, cond, List, [], ◌∷◌, refl, ap, ◌∙◌, subst, arith}
use Rattle.std.proofs.Math.Nat.{mul-suc}
use Rattle.std.specs.List.{list_any}
use Rattle.irq_base.specs.declared.numbers.CpuNo.{CpuNo}
use Rattle.irq_base.specs.declared.numbers.DevNo.{DevNo}
use Rattle.irq_base.specs.declared.devices.DeviceDef.{DeviceDef}
use Rattle.irq_base.specs.declared.lines.LineDef.{LineDef}
use Rattle.irq_base.specs.declared.entries.Entry.{Entry}
use Rattle.irq_base.specs.declared.entries.Entry.TheVariants as by
use Rattle.irq_base.specs.declared.entries.CpuEntry.TheVariants as cpus
use Rattle.irq_base.specs.declared.entries.TakeAnswer.TheVariants as takes
use Rattle.irq_model.specs.Places.{since, count_of}
use Rattle.irq_model.specs.Kinds.{same_dev, is_begin, is_handle}
use Rattle.irq_model.specs.Lines.{is_device}
use Rattle.irq_model.specs.Rounds.{begins_round, flow, has_flow, has_begun}
use Rattle.irq_model.specs.Legal.{IsDue, IsLegalPast}
use Rattle.irq_model.specs.Valid.{IsValid}
use Rattle.irq_model.proofs.Same.{same_self, dev_from_same}
use Rattle.irq_laws.specs.Kept.{Kept}
use Rattle.irq_laws.proofs.KeptAlways.{kept}
use Rattle.irq_laws.proofs.FreesKept.{begun_is_linked}
use Rattle.irq_laws.proofs.Requested.{was_linked}
use Rattle.irq_laws.proofs.ImpliesFlow.{begin_due, has_a_flow}
use Rattle.irq_storms.specs.Judged.{one_if}
use Rattle.irq_storms.specs.Tests.{total}
use Rattle.irq_storms.proofs.Counting.{count_more}
use Rattle.irq_storms.proofs.RunCounts.{is_left, left_before}
use Rattle.irq_storms.proofs.Paying.{sum_over}

-- ---- the weights of the devices that a test takes

abbrev pub taken : (DevNo → ℕ) → (DevNo → Bool) → List DeviceDef → ℕ
taken w p xs = total (λ x. cond (p x.dev) (w x.dev) 0) xs

taken_imply : (w : DevNo → ℕ) (p q : DevNo → Bool) (xs : List DeviceDef) → ((d : DevNo) → p d ≡ true → q d ≡ true) → taken w p xs ≤ taken w q xs
taken_imply w p q [] h = omega arith
taken_imply w p q (x ∷ xs) h = by_test (p x.dev) (q x.dev) (h x.dev) (taken_imply w p q xs h)
  where
    by_test : (b c : Bool) → (b ≡ true → c ≡ true) → taken w p xs ≤ taken w q xs
        → cond b (w x.dev) 0 + taken w p xs ≤ cond c (w x.dev) 0 + taken w q xs
    by_test true true i k = omega (arith, k)
    by_test true false i k = let n = i refl in cc
    by_test false c i k = omega (arith, k)

pub taken_all : (w : DevNo → ℕ) (p : DevNo → Bool) (xs : List DeviceDef) → taken w p xs ≤ total (λ x. w x.dev) xs
taken_all w p [] = omega arith
taken_all w p (x ∷ xs) = by_test (p x.dev) (taken_all w p xs)
  where
    by_test : (b : Bool) → taken w p xs ≤ total (λ x. w x.dev) xs → cond b (w x.dev) 0 + taken w p xs ≤ w x.dev + total (λ x. w x.dev) xs
    by_test true h = omega (arith, h)
    by_test false h = omega (arith, h)

-- one device fewer
taken_drop : (w : DevNo → ℕ) (p q : DevNo → Bool) (d : DevNo) (xs : List DeviceDef) → ((x : DevNo) → q x ≡ true → p x ≡ true)
    → p d ≡ true → q d ≡ false → list_any (is_device d) xs ≡ true → taken w q xs + w d ≤ taken w p xs
taken_drop w p q d [] le holds fails there = cc
taken_drop w p q d (x ∷ xs) le holds fails there = by_test (is_device d x) refl there (λ t. taken_drop w p q d xs le holds fails t)
  where
    here : (a b : Bool) → a ≡ true → b ≡ false → (k l m n : ℕ) → n ≤ m → k ≡ l → (cond b k 0 + n) + l ≤ cond a k 0 + m
    here true false h i k l m n j same = omega (arith, j, same)
    here false b h i k l m n j same = cc
    here true true h i k l m n j same = cc

    later : (a b : Bool) → (b ≡ true → a ≡ true) → (k l m n : ℕ) → n + l ≤ m → (cond b k 0 + n) + l ≤ cond a k 0 + m
    later true true i k l m n j = omega (arith, j)
    later true false i k l m n j = omega (arith, j)
    later false false i k l m n j = omega (arith, j)
    later false true i k l m n j = let z = i refl in cc

    by_test : (b : Bool) → is_device d x ≡ b → (b || list_any (is_device d) xs) ≡ true
        → (list_any (is_device d) xs ≡ true → taken w q xs + w d ≤ taken w p xs)
        → taken w q (x ∷ xs) + w d ≤ taken w p (x ∷ xs)
    by_test true is any deeper =
        let same = dev_from_same d x.dev is in
        here (p x.dev) (q x.dev) (subst (λ y. p y ≡ true) same holds) (subst (λ y. q y ≡ false) same fails) (w x.dev) (w d) _ _
        (taken_imply w q p xs le) (ap w (dev_from_same x.dev d (subst (λ y. same_dev y d ≡ true) same (same_self d))))
    by_test false is any deeper = later (p x.dev) (q x.dev) (le x.dev) (w x.dev) (w d) _ _ (deeper any)

-- ---- the devices that are left in the round

module _ (def : LineDef) (w : DevNo → ℕ) where
  abbrev pub begin_pays : Entry → ℕ
  begin_pays (by.Cpu cpu (cpus.Begin dev)) = w dev
  begin_pays _ = 0

  abbrev left_weight : List Entry → ℕ
  left_weight past = taken w (is_left def past) def.devices

  abbrev all : ℕ
  all = total (λ x. w x.dev) def.devices

  abbrev LeftKept : Entry → List Entry → Type 0
  LeftKept e past = begin_pays e + left_weight (e ∷ past) ≤ left_weight past

  later_begun : (s b : Bool) → (s || b) ≡ false → b ≡ false
  later_begun s b h = grind arith

  left_at_begin : (c : CpuNo) (x : DevNo) (past : List Entry) → Kept def past → IsDue def (by.Cpu c (cpus.Begin x)) past
      → LeftKept (by.Cpu c (cpus.Begin x)) past
  left_at_begin c x past k due =
      let u = begin_due def c x past due in
      let l = begun_is_linked def past x u.first in
      let e = by.Cpu c (cpus.Begin x) in
      let drop = taken_drop w (is_left def past) (is_left def (e ∷ past)) x def.devices
      (λ d. left_before def e past d refl (later_begun (same_dev d x) (has_begun def past d)))
      (was (has_flow def past) (has_begun def past x) (has_a_flow c (flow def past) u.of_flow) l.1)
      (now (has_flow def (e ∷ past)) (same_dev x x) (has_begun def past x) (same_self x))
      (k.rest.named x (was_linked past x l.0)) in
      omega (arith, drop)
    where
      was : (a b : Bool) → a ≡ true → b ≡ false → (a && not b) ≡ true
      was a b h i = grind arith

      now : (a s b : Bool) → s ≡ true → (a && not (s || b)) ≡ false
      now a s b h = grind arith

  left_quiet : (e : Entry) (past : List Entry) → begin_pays e ≡ 0 → is_handle e ≡ false
      → ((d : DevNo) → has_begun def (e ∷ past) d ≡ false → has_begun def past d ≡ false) → LeftKept e past
  left_quiet e past no_begin no_handle begun =
      let less = taken_imply w (is_left def (e ∷ past)) (is_left def past) def.devices (λ d. left_before def e past d no_handle (begun d)) in
      omega (arith, less, no_begin)

  left_more : (e : Entry) (past : List Entry) → Kept def past → IsDue def e past → begins_round def e ≡ false → LeftKept e past
  left_more (by.Cpu c (cpus.Begin x)) past k due same = left_at_begin c x past k due
  left_more (by.Cpu c (cpus.Take way takes.Handle)) past k due same = cc
  left_more (by.Cpu c (cpus.End again unmask note)) past k due same
      = left_quiet (by.Cpu c (cpus.End again unmask note)) past refl refl
      (λ d. begun (begins_round def (by.Cpu c (cpus.End again unmask note))) d same)
    where
      begun : (b : Bool) (d : DevNo) → b ≡ false → list_any (is_begin d)
          (cond b [] (by.Cpu c (cpus.End again unmask note) ∷ since (begins_round def) past)) ≡ false
          → has_begun def past d ≡ false
      begun true d h i = cc
      begun false d h i = i
  left_more e past k due same = left_quiet e past refl refl (λ d h. h)

  begins_more : (n b r l b' r' l' x : ℕ) → b + l ≤ n * r → b' ≡ x + b → r' ≡ r → x + l' ≤ l → b' + l' ≤ n * r'
  begins_more n b r l b' r' l' x h i j k = rw j (omega (arith, h, i, k))

  begins_anew : (n b r l b' r' l' : ℕ) → b + l ≤ n * r → b' ≡ b → r' ≡ suc r → l' ≤ n → b' + l' ≤ n * r'
  begins_anew n b r l b' r' l' h i j k = rw (j, mul-suc n r) (omega (arith, h, i, k))

  no_begin_anew : (e : Entry) → begins_round def e ≡ true → begin_pays e ≡ 0
  no_begin_anew (by.Cpu c (cpus.Begin x)) h = cc
  no_begin_anew e h = refl

  none_left : (xs : List DeviceDef) → total (λ (x : DeviceDef). cond false (w x.dev) 0) xs ≡ 0
  none_left [] = refl
  none_left (x ∷ xs) = let r = none_left xs in omega (arith, r)

  -- each round pays for one run of each device
  pub begins_paid : (past : List Entry) → IsValid def → IsLegalPast def past
      → sum_over (λ e past. begin_pays e) past + left_weight past ≤ all * count_of (begins_round def) past
  begins_paid [] valid legal = let none = none_left def.devices in omega (arith, none)
  begins_paid (e ∷ past) valid legal = by_round (begins_round def e) refl (begins_paid past valid legal.1)
    where
      by_round : (b : Bool) → begins_round def e ≡ b
          → sum_over (λ e past. begin_pays e) past + left_weight past ≤ all * count_of (begins_round def) past
          → sum_over (λ e past. begin_pays e) (e ∷ past) + left_weight (e ∷ past) ≤ all * count_of (begins_round def) (e ∷ past)
      by_round true is before =
          let none = no_begin_anew e is in
          let r : count_of (begins_round def) (e ∷ past)
          ≡ suc (count_of (begins_round def) past) = count_more (begins_round def) e past
          ∙ (let n : one_if (begins_round def e) ≡ 1 = ap one_if is in omega (arith, n)) in
          begins_anew all (sum_over (λ e past. begin_pays e) past) (count_of (begins_round def) past) (left_weight past) _ _ _ before (omega (arith, none)) r
          (taken_all w (is_left def (e ∷ past)) def.devices)
      by_round false is before =
          let r : count_of (begins_round def) (e ∷ past)
          ≡ count_of (begins_round def) past = count_more (begins_round def) e past
          ∙ (let n : one_if (begins_round def e) ≡ 0 = ap one_if is in omega (arith, n)) in
          begins_more all (sum_over (λ e past. begin_pays e) past) (count_of (begins_round def) past) (left_weight past) _ _ _ (begin_pays e) before refl r
          (left_more e past (kept def past valid legal.1) legal.0 is)
