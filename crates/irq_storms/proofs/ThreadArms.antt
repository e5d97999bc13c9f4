-- The edges that a device's thread makes as it turns the device's interrupt on: in runs that met
-- something unserved, or in which something was asked.
use Rattle.std.proofs.Common.{◌≡◌, ℕ, ◌+◌, ◌-◌, ◌*◌, ◌≤◌, ◌<◌, Bool, true, false, not, ◌||◌, ◌&&◌, cond, nat_lt, List}
use Rattle.std.proofs.Common.{[], ◌∷◌, refl, sym, ap, ◌∙◌, subst, arith}
use Rattle.std.proofs.Math.Nat.{mul-le-mul_left}
use Rattle.std.proofs.lemmas.Bool.{ltb-true, ltb-false}
use Rattle.std.specs.List.{list_any}
use Rattle.irq_base.specs.declared.numbers.DevNo.{DevNo}
use Rattle.irq_base.specs.declared.devices.Part.TheVariants as parts
use Rattle.irq_base.specs.declared.lines.LineDef.{LineDef}
use Rattle.irq_base.specs.declared.entries.Actor.TheVariants as actors
use Rattle.irq_base.specs.declared.entries.Entry.{Entry}
use Rattle.irq_base.specs.declared.entries.Entry.TheVariants as by
use Rattle.irq_base.specs.declared.entries.ThreadEntry.TheVariants as threads
use Rattle.irq_base.specs.declared.entries.DriverEntry.TheVariants as drivers
use Rattle.irq_base.specs.declared.entries.CallEntry.{CallEntry}
use Rattle.irq_base.specs.declared.entries.CallEntry.TheVariants as called
use Rattle.irq_model.specs.Places.{since, before, count_of}
use Rattle.irq_model.specs.Kinds.{same_dev, is_ask, is_thread_begin}
use Rattle.irq_model.specs.Lines.{is_edge_line, run_script, does_forget}
use Rattle.irq_model.specs.Asks.{begins_run, unserved_asks, is_quiet}
use Rattle.irq_model.specs.Runs.{met_by}
use Rattle.irq_model.specs.RunLaws.{is_in_run}
use Rattle.irq_model.specs.Threads.{is_running}
use Rattle.irq_model.specs.RunBounds.{arms_this, arms_of}
use Rattle.irq_model.specs.Legal.{IsDue, IsLegalPast}
use Rattle.irq_model.proofs.Same.{dev_from_same}
use Rattle.irq_laws.proofs.ImpliesThread.{has_returned, thread_call_due}
use Rattle.irq_laws.proofs.ImpliesDriver.{arm_due}
use Rattle.irq_storms.specs.Judged.{one_if}
use Rattle.irq_storms.specs.Tests.{asks_served, total}
use Rattle.irq_storms.proofs.Counting.{count_total}
use Rattle.irq_storms.proofs.ThreadRuns.{made_most, in_run_before, thread_paid, times_count}
use Rattle.irq_storms.proofs.Within.{asked_since, in_balance}
use Rattle.irq_storms.proofs.Meeting.{AlwaysServes, meetings, has_begun_run}
use Rattle.irq_storms.proofs.ArmCosts.{edge_arm, arm_cost, arm_weight, thread_arms, thread_made, thread_alone}
use Rattle.irq_storms.proofs.HandlerArms.{times_sum}
use Rattle.irq_storms.proofs.Paying.{sum_over, StaysPaid, is_paid, sum_two}

-- ---- an arm that makes an edge finds something unserved

unserved_there : (edge quiet some forgets : Bool) → true ≡ (edge && (quiet && (some && not forgets))) → some ≡ true
unserved_there edge quiet some forgets h = grind arith

arm_finds : (def : LineDef) (y d : DevNo) (call : CallEntry) (past : List Entry) → IsDue def (by.ThreadCall y call) past → edge_arm d call ≡ true
    → nat_lt 0 (unserved_asks def d past) ≡ true
arm_finds def y d (called.Arm true x) past due h =
    let a = arm_due def (actors.Thread y) true x past due in
    subst (λ (z : DevNo). nat_lt 0 (unserved_asks def z past) ≡ true) (sym (dev_from_same d x h))
    (unserved_there (is_edge_line def) (is_quiet past x) (nat_lt 0 (unserved_asks def x past)) (does_forget def x) a)
arm_finds def y d (called.Arm false x) past due h = cc
arm_finds def y d call past due h = cc

any_count : (p : Entry → Bool) (xs : List Entry) → 1 ≤ count_of p xs → list_any p xs ≡ true
any_count p [] h = absurd (omega (arith, h))
any_count p (e ∷ xs) h = by_test (p e) h (any_count p xs)
  where
    by_test : (b : Bool) → 1 ≤ cond b (count_of p xs + 1) (count_of p xs) → (1 ≤ count_of p xs → list_any p xs ≡ true) → (b || list_any p xs) ≡ true
    by_test true h deeper = refl
    by_test false h deeper = deeper h

-- ---- each such run has met something, or something was asked in it

module _ (def : LineDef) (d : DevNo) where
  abbrev all : ℕ
  all = total (arm_weight d) (run_script def d parts.Thread)

  abbrev made : List Entry → ℕ
  made past = total (thread_arms d) (since (is_thread_begin d) past)

  abbrev met : List Entry → Bool
  met past = nat_lt 0 (met_by def parts.Thread d past)

  abbrev asked : List Entry → Bool
  asked past = list_any (is_ask d) (since (is_thread_begin d) past)

  abbrev rest : List Entry → ℕ
  rest past = cond (is_in_run past d && (met past || asked past)) (all - made past) 0

  abbrev meets_d : Entry → List Entry → Bool
  meets_d e past = is_thread_begin d e && nat_lt 0 (unserved_asks def d past)

  abbrev pays : Entry → List Entry → ℕ
  pays e past = cond (meets_d e past) all 0 + cond (is_ask d e) all 0

  abbrev Paid : Entry → List Entry → Type 0
  Paid e past = StaysPaid (λ e past. thread_arms d e) pays rest e past

  begins_none : (e : Entry) → is_thread_begin d e ≡ true → thread_arms d e ≡ 0
  begins_none (by.Thread x threads.Begin) h = refl
  begins_none e h = cc

  asks_none : (e : Entry) → is_ask d e ≡ true → thread_arms d e ≡ 0
  asks_none (by.Driver r (drivers.Ask edge x)) h = refl
  asks_none e h = cc

  at_begin : (e : Entry) (past : List Entry) → is_thread_begin d e ≡ true → Paid e past
  at_begin e past is =
      let none = begins_none e is in
      let met_is : met (e ∷ past) ≡ nat_lt 0 (unserved_asks def d past) =
      ap (λ (c : Bool). nat_lt 0 (unserved_asks def d (cond c past (before (is_thread_begin d) past)))) is in
      let asked_is : asked (e ∷ past) ≡ false = ap (λ (c : Bool). list_any (is_ask d) (cond c [] (e ∷ since (is_thread_begin d) past))) is in
      let r = by_tests (is_thread_begin d e) (is_in_run (e ∷ past) d) (met (e ∷ past)) (asked (e ∷ past))
      (nat_lt 0 (unserved_asks def d past)) (made (e ∷ past))
      is met_is asked_is in
      omega (arith, none, r)
    where
      by_tests : (b r m a u : Bool) (k : ℕ) → b ≡ true → m ≡ u → a ≡ false → cond (r && (m || a)) (all - k) 0 ≤ cond (b && u) all 0
      by_tests true true true false true k h i j = omega arith
      by_tests true true false false false k h i j = omega arith
      by_tests true false m a u k h i j = omega arith
      by_tests false r m a u k h i j = cc
      by_tests true true true true u k h i j = cc
      by_tests true true false true u k h i j = cc
      by_tests true true true false false k h i j = cc
      by_tests true true false false true k h i j = cc

  at_ask : (e : Entry) (past : List Entry) → is_ask d e ≡ true → Paid e past
  at_ask e past is =
      let none = asks_none e is in
      let r = most (is_in_run (e ∷ past) d && (met (e ∷ past) || asked (e ∷ past))) (made (e ∷ past)) in
      let p : cond (is_ask d e) all 0 ≡ all = ap (λ (b : Bool). cond b all 0) is in
      omega (arith, none, r, p)
    where
      most : (b : Bool) (k : ℕ) → cond b (all - k) 0 ≤ all
      most true k = omega arith
      most false k = omega arith

  made_more : (e : Entry) (past : List Entry) → is_thread_begin d e ≡ false → made (e ∷ past) ≡ thread_arms d e + made past
  made_more e past other = ap (λ (b : Bool). total (thread_arms d) (cond b [] (e ∷ since (is_thread_begin d) past))) other

  met_same : (e : Entry) (past : List Entry) → is_thread_begin d e ≡ false → met (e ∷ past) ≡ met past
  met_same e past other = ap (λ (c : Bool). nat_lt 0 (unserved_asks def d (cond c past (before (is_thread_begin d) past)))) other

  asked_same : (e : Entry) (past : List Entry) → is_thread_begin d e ≡ false → is_ask d e ≡ false → asked (e ∷ past) ≡ asked past
  asked_same e past other no_ask =
      ap (λ (c : Bool). list_any (is_ask d) (cond c [] (e ∷ since (is_thread_begin d) past))) other
      ∙ ap (λ (c : Bool). c || asked past) no_ask

  at_other : (e : Entry) (past : List Entry) → is_thread_begin d e ≡ false → is_ask d e ≡ false → thread_arms d e ≡ 0 → Paid e past
  at_other e past other no_ask none =
      let r = by_tests (is_in_run (e ∷ past) d) (is_in_run past d) (met (e ∷ past) || asked (e ∷ past)) (met past || asked past) (made (e ∷ past)) (made past)
      (in_run_before d e past other) (same_or (met_same e past other) (asked_same e past other no_ask))
      (made_more e past other ∙ ap (λ (n : ℕ). n + made past) none) in
      omega (arith, none, r)
    where
      same_or : {a b c e : Bool} → a ≡ b → c ≡ e → (a || c) ≡ (b || e)
      same_or {a = a} {b = b} {c = c} {e = e} h i = ap (λ (x : Bool). x || c) h ∙ ap (λ (x : Bool). b || x) i

      by_tests : (r s a w : Bool) (k l : ℕ) → (r ≡ true → s ≡ true) → a ≡ w → k ≡ 0 + l → cond (r && a) (all - k) 0 ≤ cond (s && w) (all - l) 0
      by_tests true true true true k l i h j = omega (arith, j)
      by_tests true true false w k l i h j = omega arith
      by_tests true true true false k l i h j = cc
      by_tests true false a w k l i h j = let n = i refl in cc
      by_tests false s a w k l i h j = omega arith

  -- an arm that makes an edge
  at_arm : (y : DevNo) (call : CallEntry) (past : List Entry) → IsLegalPast def (by.ThreadCall y call ∷ past) → same_dev d y ≡ true
      → edge_arm d call ≡ true → Paid (by.ThreadCall y call) past
  at_arm y call past legal same edge =
      let e = by.ThreadCall y call in
      let u = thread_call_due def y call past legal.0 in
      let to_d = sym (dev_from_same d y same) in
      let runs : is_in_run past d ≡ true = subst (λ (z : DevNo). is_in_run past z ≡ true) to_d
      (run_of (is_running past y) (has_returned past y) u.running u.not_returned) in
      let most : made (e ∷ past) ≤ all = made_most d (thread_arms d) (arm_weight d) (thread_made d) (thread_alone d) def (e ∷ past) legal runs in
      let m = made_more e past refl in
      let one : thread_arms d e ≡ 1 = ap (λ (b : Bool). cond b (arm_cost d call) 0) same ∙ ap one_if edge in
      let there = why past legal.1 runs (arm_finds def y d call past legal.0 edge) in
      let was : rest past ≡ all - made past = ap (λ (b : Bool). cond b (all - made past) 0) (both _ _ runs there) in
      let is : rest (e ∷ past) ≡ all - made (e ∷ past) = ap (λ (b : Bool). cond b (all - made (e ∷ past)) 0) (both _ _ runs there) in
      omega (arith, most, m, one, was, is)
    where
      run_of : (r u : Bool) → r ≡ true → u ≡ false → (r && not u) ≡ true
      run_of r u h i = grind arith

      both : (a b : Bool) → a ≡ true → b ≡ true → (a && b) ≡ true
      both a b h i = grind arith

      why : (past : List Entry) → IsLegalPast def past → is_in_run past d ≡ true → nat_lt 0 (unserved_asks def d past) ≡ true → (met past || asked past) ≡ true
      why past legal run some =
          let i = in_balance def parts.Thread d past legal (has_begun_run parts.Thread d past run) in
          by_met (nat_lt 0 (met_by def parts.Thread d past)) refl (ltb-true 0 (unserved_asks def d past) some) i
        where
          by_met : (b : Bool) → nat_lt 0 (met_by def parts.Thread d past) ≡ b → 0 < unserved_asks def d past
              → total (asks_served d) (since (begins_run parts.Thread d) past) + unserved_asks def d past
              ≡ met_by def parts.Thread d past + asked_since parts.Thread d past
              → (b || asked past) ≡ true
          by_met true is l i = refl
          by_met false is l i = any_count (is_ask d) (since (is_thread_begin d) past)
              (let z = ltb-false 0 (met_by def parts.Thread d past) is in omega (arith, z, l, i))

  arms_more : (e : Entry) (past : List Entry) → IsLegalPast def (e ∷ past) → Paid e past
  arms_more (by.ThreadCall y call) past legal = by_tests (same_dev d y) (edge_arm d call) refl refl
    where
      by_tests : (s g : Bool) → same_dev d y ≡ s → edge_arm d call ≡ g → Paid (by.ThreadCall y call) past
      by_tests true true is ig = at_arm y call past legal is ig
      by_tests false g is ig = at_other (by.ThreadCall y call) past refl refl (ap (λ (b : Bool). cond b (arm_cost d call) 0) is)
      by_tests true false is ig = at_other (by.ThreadCall y call) past refl refl
          (ap (λ (b : Bool). cond b (arm_cost d call) 0) is ∙ ap one_if ig)
  arms_more (by.Thread y e) past legal = by_begin (is_thread_begin d (by.Thread y e)) refl
    where
      by_begin : (b : Bool) → is_thread_begin d (by.Thread y e) ≡ b → Paid (by.Thread y e) past
      by_begin true is = at_begin (by.Thread y e) past is
      by_begin false is = at_other (by.Thread y e) past is refl refl
  arms_more (by.Driver r e) past legal = by_ask (is_ask d (by.Driver r e)) refl
    where
      by_ask : (b : Bool) → is_ask d (by.Driver r e) ≡ b → Paid (by.Driver r e) past
      by_ask true is = at_ask (by.Driver r e) past is
      by_ask false is = at_other (by.Driver r e) past refl is refl
  arms_more e past legal = at_other e past refl refl refl

  arms_are : (n : ℕ) → arms_of def parts.Thread d * n ≡ all * n
  arms_are n = ap (λ (m : ℕ). m * n) (count_total (arms_this d) (run_script def d parts.Thread))

  pub serving_arms : (past : List Entry) → IsLegalPast def past → AlwaysServes def parts.Thread d
      → sum_over (λ e past. thread_arms d e) past ≤ 2 * (arms_of def parts.Thread d * count_of (is_ask d) past)
  serving_arms past legal always =
      let p = is_paid def (λ e past. thread_arms d e) pays rest refl arms_more past legal in
      let two = sum_two (λ e past. cond (meets_d e past) all 0) (λ e past. cond (is_ask d e) all 0) past in
      let t = times_sum meets_d all past in
      let a = times_count (is_ask d) all past in
      let m = meetings def parts.Thread d always past legal in
      let s = mul-le-mul_left all m in
      let same = arms_are (count_of (is_ask d) past) in
      omega (arith, p, two, t, a, s, same)

  -- whatever it serves: by its runs
  pub any_arms : (past : List Entry) → IsLegalPast def past
      → sum_over (λ e past. thread_arms d e) past ≤ arms_of def parts.Thread d * count_of (is_thread_begin d) past
  any_arms past legal =
      let p = thread_paid d (thread_arms d) (arm_weight d) (thread_made d) (thread_alone d) def past legal in
      let same = arms_are (count_of (is_thread_begin d) past) in
      omega (arith, p, same)
