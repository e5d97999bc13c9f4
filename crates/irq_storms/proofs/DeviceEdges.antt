-- The edges that devices make, by the asks and by what turns their interrupts on: at most those that
-- the line's definition counts, and one for each arm of a driver.
use Rattle.std.proofs.Common.{◌≡◌, ℕ, ◌+◌, ◌*◌, ◌≤◌, ◌==◌, Bool, true, false, ◌&&◌, cond, Some, List, [], ◌∷◌, refl, sym, ap, ◌∙◌, subst, arith}
use Rattle.std.proofs.Math.Nat.{mul-le-mul_left, mul_comm, mul_assoc}
use Rattle.std.proofs.lemmas.Bool.{or_parts}
use Rattle.std.proofs.lemmas.List.Elements.{recursion_from_All}
use Rattle.std.specs.List.{list_any, AllByRecursion}
use Rattle.irq_base.specs.declared.numbers.DevNo.{DevNo}
use Rattle.irq_base.specs.declared.numbers.DriverNo.{DriverNo}
use Rattle.irq_base.specs.declared.calls.Call.{Call}
use Rattle.irq_base.specs.declared.calls.Call.TheVariants as calls
use Rattle.irq_base.specs.declared.devices.DeviceDef.{DeviceDef}
use Rattle.irq_base.specs.declared.devices.Kind.{Kind}
use Rattle.irq_base.specs.declared.devices.Kind.TheVariants as kinds
use Rattle.irq_base.specs.declared.devices.Part.{Part}
use Rattle.irq_base.specs.declared.devices.Part.TheVariants as parts
use Rattle.irq_base.specs.declared.lines.LineDef.{LineDef}
use Rattle.irq_base.specs.declared.entries.Actor.TheVariants as actors
use Rattle.irq_base.specs.declared.entries.Entry.{Entry}
use Rattle.irq_base.specs.declared.entries.Entry.TheVariants as by
use Rattle.irq_base.specs.declared.entries.DriverEntry.TheVariants as drivers
use Rattle.irq_base.specs.declared.entries.CallEntry.{CallEntry}
use Rattle.irq_base.specs.declared.entries.CallEntry.TheVariants as called
use Rattle.irq_base.specs.declared.entries.UnlinkAnswer.TheVariants as unlinks
use Rattle.irq_base.specs.Handlers.{has_thread}
use Rattle.irq_model.specs.Places.{count_of}
use Rattle.irq_model.specs.Kinds.{same_dev, is_any_ask, is_ask, is_device_edge, arms_with_edge, is_thread_begin}
use Rattle.irq_model.specs.Lines.{is_device, kind_in, kind_of, same_part, script_in, run_script}
use Rattle.irq_model.specs.Bounds.{is_ask_call}
use Rattle.irq_model.specs.Scripts.{MakesSteps, MakesAll, step_in}
use Rattle.irq_model.specs.RunBounds.{asks_this, arms_this, asks_of, arms_of, told_wakes, wakes_by_handler, edges_by_arms, device_edges}
use Rattle.irq_model.specs.Legal.{IsDue, IsLegalPast}
use Rattle.irq_model.specs.Valid.{IsValid, HasDistinctDevices}
use Rattle.irq_model.specs.ValidRuns.{HasValidRuns, has_script, is_told}
use Rattle.irq_model.proofs.Same.{same_self, same_both, dev_from_same}
use Rattle.irq_laws.proofs.Lists.{both_ways}
use Rattle.irq_laws.proofs.ScriptLaws.{follows_past}
use Rattle.irq_laws.proofs.ImpliesCall.{step_row}
use Rattle.irq_laws.proofs.ImpliesThread.{thread_call_due}
use Rattle.irq_laws.proofs.Standstill.{run_stands}
use Rattle.irq_storms.specs.Judged.{one_if}
use Rattle.irq_storms.specs.Tests.{total, is_by_any_driver}
use Rattle.irq_storms.proofs.Counting.{count_more, count_imply, count_total, total_at, totals_by_key}
use Rattle.irq_storms.proofs.Weights.{of_drivers}
use Rattle.irq_storms.proofs.CallCounts.{renews, asks_of_drivers}
use Rattle.irq_storms.proofs.CallCosts.{runs_cost}
use Rattle.irq_storms.proofs.ThreadCounts.{dev_key, call_key, begins_of}
use Rattle.irq_storms.proofs.DeviceSums.{number, present}
use Rattle.irq_storms.proofs.Meeting.{AlwaysServes, check_serves, null_serves}
use Rattle.irq_storms.proofs.ArmCosts.{arm_cost, handler_arms, thread_arms, arm_call}
use Rattle.irq_storms.proofs.HandlerArms.{direct_arms, other_arms}
use Rattle.irq_storms.proofs.ThreadArms.{serving_arms, any_arms}
use Rattle.irq_storms.proofs.ToldWakes.{told_wakes_counted}
use Rattle.irq_storms.proofs.Paying.{sum_over, sum_alone, sum_below, sum_two}
use Rattle.irq_storms.proofs.WakeCosts.{total_sum}
use Rattle.irq_storms.proofs.WeightSums.{is_arm_call}

-- ---- a device without a thread has no script of it

no_script : (def : LineDef) (q : Call → Bool) (d : DevNo) → has_thread (kind_of def d) ≡ false → (runs : List (DevNo × Part × Call))
    → AllByRecursion (λ c. has_script (kind_of def c.0) c.1 ≡ true) runs → count_of q (script_in runs d parts.Thread) ≡ 0
no_script def q d none [] all = refl
no_script def q d none (c ∷ cs) all = by_test (same_dev d c.0) refl (same_part parts.Thread c.1) refl (no_script def q d none cs all.1)
  where
    of_thread : (part : Part) → same_part parts.Thread part ≡ true → (kind : Kind) → has_script kind part ≡ true → has_thread kind ≡ true
    of_thread parts.Thread same kind h = h
    of_thread parts.Primary same kind h = cc

    by_test : (a : Bool) → same_dev d c.0 ≡ a → (b : Bool) → same_part parts.Thread c.1 ≡ b → count_of q (script_in cs d parts.Thread) ≡ 0
        → count_of q (cond (a && b) (c.2 ∷ script_in cs d parts.Thread) (script_in cs d parts.Thread)) ≡ 0
    by_test true ia true ib rest =
        both_ways (has_thread (kind_of def d))
        (subst (λ (y : DevNo). has_thread (kind_of def y) ≡ true) (sym (dev_from_same d c.0 ia)) (of_thread c.1 ib (kind_of def c.0) all.0)) none
    by_test true ia false ib rest = rest
    by_test false ia b ib rest = rest

thread_arms_none : (def : LineDef) (d : DevNo) → HasValidRuns def → has_thread (kind_of def d) ≡ false → arms_of def parts.Thread d ≡ 0
thread_arms_none def d runs none =
    no_script def (arms_this d) d none def.runs (recursion_from_All (λ c. has_script (kind_of def c.0) c.1 ≡ true) def.runs runs.scripts)

-- ---- the asks of a device

any_ask : (d : DevNo) (e : Entry) → is_ask d e ≡ true → is_any_ask e ≡ true
any_ask d (by.Driver r (drivers.Ask edge x)) h = refl
any_ask d e h = cc

no_asks : (d : DevNo) (c : Call) (es : List Entry) → MakesAll c es → is_ask_call c ≡ false → total (λ e. one_if (is_ask d e)) es ≤ 0
no_asks d c es m other =
    let t = count_total (is_ask d) es in
    let i = count_imply (is_ask d) is_any_ask es (any_ask d) in
    let r = (renews c es m).0 in
    let n : one_if (is_ask_call c) ≡ 0 = ap one_if other in
    omega (arith, t, i, r, n)

asks_made : (d : DevNo) (c : Call) (es : List Entry) → MakesAll c es → total (λ e. one_if (is_ask d e)) es ≤ one_if (asks_this d c)
asks_made d (calls.Ask x) (by.Driver r (drivers.Ask edge dev) ∷ []) m =
    let same : one_if (same_dev d dev) ≡ one_if (same_dev d x) = ap (λ (y : DevNo). one_if (same_dev d y)) m in
    omega (arith, same)
asks_made d (calls.Ask x) es m = absurd m.0
asks_made d c es m = no_asks d c es m refl

ask_by_driver : (d : DevNo) (e : Entry) → is_by_any_driver e ≡ false → one_if (is_ask d e) ≡ 0
ask_by_driver d (by.Driver r e) other = cc
ask_by_driver d e other = refl

asks_counted : (def : LineDef) (d : DevNo) (past : List Entry) → IsLegalPast def past → count_of (is_ask d) past ≤ asks_of def d
asks_counted def d past legal =
    let all = of_drivers (λ e. one_if (is_ask d e)) (λ c. one_if (asks_this d c)) (asks_made d) (ask_by_driver d) def past
    (λ r. follows_past def past legal (actors.Driver r)) in
    let a = count_total (is_ask d) past in
    let b = count_total (λ (c : DriverNo × Call). asks_this d c.1) def.calls in
    omega (arith, all, a, b)

-- ---- the arms of runs, of one device

abbrev pub run_arms : Entry → ℕ
run_arms (by.CpuCall cpu call) = one_if (arms_with_edge call)
run_arms (by.ThreadCall dev call) = one_if (arms_with_edge call)
run_arms _ = 0

module _ (def : LineDef) (runs : HasValidRuns def) where
  no_weight : (b : Bool) → cond b 0 0 ≤ 0
  no_weight true = omega arith
  no_weight false = omega arith

  of_handler : (k : ℕ) (call : CallEntry) → cond (k == call_key call) (one_if (arms_with_edge call)) 0 ≤ arm_cost (record { 0 = k }) call
  of_handler k (called.Arm edge x) = by_tests edge (k == x.0)
    where
      by_tests : (a b : Bool) → cond b (one_if a) 0 ≤ one_if (a && b)
      by_tests true true = omega arith
      by_tests true false = omega arith
      by_tests false true = omega arith
      by_tests false false = omega arith
  of_handler k call = no_weight (k == call_key call)

  -- a thread arms its own device alone
  own_arm : (y x : DevNo) (edge : Bool) (past : List Entry) → IsDue def (by.ThreadCall y (called.Arm edge x)) past → same_dev y x ≡ true
  own_arm y x edge past due =
      let u = thread_call_due def y (called.Arm edge x) past due in
      let row = step_row def (Some u.due) u.due.0 u.due.1 past (called.Arm edge x) refl u.step in
      let a = arm_call def (Some u.due) past edge x row in
      run_stands def past parts.Thread y (calls.Arm x) a.0 runs (u.is_due ∙ a.1)

  of_thread : (k : ℕ) (y : DevNo) (call : CallEntry) (past : List Entry) → IsDue def (by.ThreadCall y call) past
      → cond (k == call_key call) (one_if (arms_with_edge call)) 0 ≤ cond (same_dev (record { 0 = k }) y) (arm_cost (record { 0 = k }) call) 0
  of_thread k y (called.Arm edge x) past due =
      subst (λ (z : DevNo). cond (k == x.0) (one_if edge) 0 ≤ cond (same_dev (record { 0 = k }) z) (one_if (edge && (k == x.0))) 0)
      (sym (dev_from_same y x (own_arm y x edge past due))) (by_tests edge (k == x.0))
    where
      by_tests : (a b : Bool) → cond b (one_if a) 0 ≤ cond b (one_if (a && b)) 0
      by_tests true true = omega arith
      by_tests true false = omega arith
      by_tests false true = omega arith
      by_tests false false = omega arith
  of_thread k y call past due = let n = no_weight (k == call_key call) in omega (arith, n)

  at_device : (k : ℕ) (e : Entry) (past : List Entry) → IsLegalPast def (e ∷ past)
      → cond (k == dev_key e) (run_arms e) 0 ≤ handler_arms (record { 0 = k }) e + thread_arms (record { 0 = k }) e
  at_device k (by.CpuCall c call) past legal = let h = of_handler k call in omega (arith, h)
  at_device k (by.ThreadCall y call) past legal = let t = of_thread k y call past legal.0 in omega (arith, t)
  at_device k e past legal = let n = no_weight (k == dev_key e) in omega (arith, n)

  both_arms : (k : ℕ) (past : List Entry) → IsLegalPast def past
      → total_at dev_key run_arms k past ≤ sum_over (λ e past. handler_arms (record { 0 = k }) e) past + sum_over
      (λ e past. thread_arms (record { 0 = k }) e) past
  both_arms k past legal =
      let a = sum_alone (λ e. cond (k == dev_key e) (run_arms e) 0) past in
      let s = sum_below def (λ e past. cond (k == dev_key e) (run_arms e) 0)
      (λ e past. handler_arms (record { 0 = k }) e + thread_arms (record { 0 = k }) e) (at_device k) past legal in
      let t = sum_two (λ e past. handler_arms (record { 0 = k }) e) (λ e past. thread_arms (record { 0 = k }) e) past in
      omega (arith, a, s, t)

  -- ---- by its kind

  abbrev DeviceArms : DevNo → List Entry → Kind → Type 0
  DeviceArms d past kind = sum_over (λ e past. handler_arms d e) past + sum_over (λ e past. thread_arms d e) past ≤ edges_by_arms def d kind

  no_thread : (d : DevNo) (past : List Entry) → IsLegalPast def past → has_thread (kind_of def d) ≡ false → sum_over (λ e past. thread_arms d e) past ≤ 0
  no_thread d past legal none =
      let a = any_arms def d past legal in
      let z : arms_of def parts.Thread d * count_of (is_thread_begin d) past ≡ 0 * count_of (is_thread_begin d) past =
      ap (λ (n : ℕ). n * count_of (is_thread_begin d) past) (thread_arms_none def d runs none) in
      omega (arith, a, z)

  not_direct : (d : DevNo) (kind : Kind) → kind_of def d ≡ kind → (kind ≡ kinds.Direct → ⊥) → kind_of def d ≡ kinds.Direct → ⊥
  not_direct d kind is other direct = other (sym is ∙ direct)

  direct : (d : DevNo) (past : List Entry) → IsLegalPast def past → kind_of def d ≡ kinds.Direct → DeviceArms d past kinds.Direct
  direct d past legal is =
      let h = direct_arms def runs d past legal is in
      let t = no_thread d past legal (ap has_thread is) in
      let m = mul-le-mul_left (arms_of def parts.Primary d) (asks_counted def d past legal) in
      let c = mul_comm (arms_of def parts.Primary d) (asks_of def d) in
      omega (arith, h, t, m, c)

  serving : (d : DevNo) (past : List Entry) → IsLegalPast def past → (kind_of def d ≡ kinds.Direct → ⊥) → AlwaysServes def parts.Thread d
      → sum_over (λ e past. handler_arms d e) past + sum_over (λ e past. thread_arms d e) past ≤ 2 * asks_of def d * arms_of def parts.Thread d
  serving d past legal other always =
      let h = other_arms def runs d past legal other in
      let t = serving_arms def d past legal always in
      let m = mul-le-mul_left (arms_of def parts.Thread d) (asks_counted def d past legal) in
      let a = mul_assoc 2 (asks_of def d) (arms_of def parts.Thread d) in
      let c = mul_comm (arms_of def parts.Thread d) (asks_of def d) in
      omega (arith, h, t, m, a, c)

  by_told : (d : DevNo) (past : List Entry) → IsLegalPast def past → (threaded : Bool) → kind_of def d ≡ kinds.Told threaded
      → sum_over (λ e past. thread_arms d e) past ≤ arms_of def parts.Thread d * told_wakes def d
  by_told d past legal threaded is = by_wakes (list_any (wakes_by_handler d) def.runs) refl
    where
      any_none : (cs : List Call) → list_any (arms_this d) cs ≡ false → count_of (arms_this d) cs ≡ 0
      any_none [] h = refl
      any_none (c ∷ cs) h =
          let p = or_parts (arms_this d c) (list_any (arms_this d) cs) h in
          ap (λ (b : Bool). cond b (count_of (arms_this d) cs + 1) (count_of (arms_this d) cs)) p.0 ∙ any_none cs p.1

      less : (b m w : ℕ) → b + m ≤ w → b ≤ w
      less b m w h = omega (arith, h)

      by_wakes : (b : Bool) → list_any (wakes_by_handler d) def.runs ≡ b
          → sum_over (λ e past. thread_arms d e) past ≤ arms_of def parts.Thread d * told_wakes def d
      by_wakes true woken =
          let none = any_none (run_script def d parts.Thread) (runs.told_arms d (ap is_told is) woken) in
          let a = any_arms def d past legal in
          let z : arms_of def parts.Thread d * count_of (is_thread_begin d) past ≡ 0 * count_of (is_thread_begin d) past =
          ap (λ (n : ℕ). n * count_of (is_thread_begin d) past) none in
          omega (arith, a, z)
      by_wakes false woken =
          let a = any_arms def d past legal in
          let b = less _ _ _ (begins_of def d past legal) in
          let w = told_wakes_counted def runs d woken past legal threaded is in
          let m = mul-le-mul_left (arms_of def parts.Thread d) b in
          let n = mul-le-mul_left (arms_of def parts.Thread d) w in
          omega (arith, a, m, n)

  by_kind : (d : DevNo) (past : List Entry) → IsLegalPast def past → (kind : Kind) → kind_of def d ≡ kind → DeviceArms d past kind
  by_kind d past legal kinds.Direct is = direct d past legal is
  by_kind d past legal kinds.Check is = serving d past legal (not_direct d kinds.Check is (λ h. cc)) (check_serves def d is)
  by_kind d past legal kinds.Null is = serving d past legal (not_direct d kinds.Null is (λ h. cc)) (null_serves def d is)
  by_kind d past legal kinds.Stuck is =
      let h = other_arms def runs d past legal (not_direct d kinds.Stuck is (λ h. cc)) in
      let t = no_thread d past legal (ap has_thread is) in
      omega (arith, h, t)
  by_kind d past legal kinds.Odd is =
      let h = other_arms def runs d past legal (not_direct d kinds.Odd is (λ h. cc)) in
      let t = no_thread d past legal (ap has_thread is) in
      omega (arith, h, t)
  by_kind d past legal (kinds.Told threaded) is =
      let h = other_arms def runs d past legal (not_direct d (kinds.Told threaded) is (λ h. cc)) in
      let t = by_told d past legal threaded is in
      omega (arith, h, t)

  -- ---- of all devices

  abbrev edges_of : DevNo → ℕ
  edges_of d = edges_by_arms def d (kind_of def d)

  lacks : (d : DevNo) (xs : List DeviceDef) → list_any (is_device d) xs ≡ false → kind_in xs d ≡ kinds.Stuck
  lacks d [] h = refl
  lacks d (x ∷ xs) h =
      let p = or_parts (is_device d x) (list_any (is_device d) xs) h in
      ap (λ (b : Bool). cond b x.kind (kind_in xs d)) p.0 ∙ lacks d xs p.1

  edges_at : IsValid def → (d : DevNo) → edges_of d ≤ total_at number (λ x. edges_of x.dev) d.0 def.devices
  edges_at valid d = by_test (list_any (is_device d) def.devices) refl
    where
      by_test : (b : Bool) → list_any (is_device d) def.devices ≡ b → edges_of d ≤ total_at number (λ x. edges_of x.dev) d.0 def.devices
      by_test true is = let p = present edges_of d def.devices valid.distinct is in omega (arith, p)
      by_test false is = let z : edges_of d ≡ 0 = ap (edges_by_arms def d) (lacks d def.devices is) in omega (arith, z)

  -- each device's kind is the one that it says
  total_kinds : (xs : List DeviceDef) (f g : DeviceDef → ℕ) → AllByRecursion (λ x. f x ≡ g x) xs → total f xs ≡ total g xs
  total_kinds [] f g h = refl
  total_kinds (x ∷ xs) f g h = let a = h.0 in let r = total_kinds xs f g h.1 in omega (arith, a, r)

  other_first : (y : DeviceDef) (xs : List DeviceDef) (zs : List DeviceDef) → list_any (is_device y.dev) xs ≡ false
      → AllByRecursion (λ x. kind_in zs x.dev ≡ x.kind) xs → AllByRecursion (λ x. kind_in (y ∷ zs) x.dev ≡ x.kind) xs
  other_first y [] zs apart h = tt
  other_first y (x ∷ xs) zs apart h =
      let p = or_parts (is_device y.dev x) (list_any (is_device y.dev) xs) apart in
      (ap (λ (b : Bool). cond b y.kind (kind_in zs x.dev)) (same_both x.dev y.dev ∙ p.0) ∙ h.0, other_first y xs zs p.1 h.1)

  own_kinds : (xs : List DeviceDef) → HasDistinctDevices xs → AllByRecursion (λ x. kind_in xs x.dev ≡ x.kind) xs
  own_kinds [] apart = tt
  own_kinds (x ∷ xs) apart =
      (ap (λ (b : Bool). cond b x.kind (kind_in xs x.dev)) (same_self x.dev), other_first x xs xs apart.0 (own_kinds xs apart.1))

  edges_are : (xs : List DeviceDef) → AllByRecursion (λ x. kind_of def x.dev ≡ x.kind) xs
      → AllByRecursion (λ x. edges_of x.dev ≡ edges_by_arms def x.dev x.kind) xs
  edges_are [] h = tt
  edges_are (x ∷ xs) h = (ap (edges_by_arms def x.dev) h.0, edges_are xs h.1)

  arms_of_runs : (past : List Entry) → IsValid def → IsLegalPast def past → total run_arms past ≤ total (λ x. edges_by_arms def x.dev x.kind) def.devices
  arms_of_runs past valid legal =
      let all = totals_by_key dev_key run_arms past number (λ x. edges_of x.dev) def.devices each in
      let same = total_kinds def.devices (λ x. edges_of x.dev) (λ x. edges_by_arms def x.dev x.kind)
      (edges_are def.devices (own_kinds def.devices valid.distinct)) in
      omega (arith, all, same)
    where
      each : (k : ℕ) → total_at dev_key run_arms k past ≤ total_at number (λ x. edges_of x.dev) k def.devices
      each k =
          let d : DevNo = record { 0 = k } in
          let b = both_arms k past legal in
          let m = by_kind d past legal (kind_of def d) refl in
          let e = edges_at valid d in
          omega (arith, b, m, e)

-- ---- the arms of drivers

abbrev pub driver_arms : Entry → ℕ
driver_arms (by.DriverCall driver call) = one_if (arms_with_edge call)
driver_arms _ = 0

arm_once : (edge : Bool) → one_if edge + 0 ≤ 1
arm_once true = omega arith
arm_once false = omega arith

arm_steps : (c : Call) (cs : List CallEntry) → MakesSteps c cs → total (λ call. one_if (arms_with_edge call)) cs ≤ one_if (is_arm_call c)
arm_steps (calls.Free x) (called.Unlink unlinks.NotThere dev ∷ []) m = omega arith
arm_steps (calls.Free x) (called.Unlink (unlinks.Unlinked last) dev ∷ called.HardClear ∷ called.Freed gone ∷ []) m = omega arith
arm_steps calls.Disable (called.Disable ∷ called.HardClear ∷ called.Synced ∷ []) m = omega arith
arm_steps calls.DisableNosync (called.Disable ∷ []) m = omega arith
arm_steps calls.Enable (called.Enable answer ∷ []) m = omega arith
arm_steps calls.Sync (called.HardClear ∷ called.Synced ∷ []) m = omega arith
arm_steps calls.SyncHard (called.HardClear ∷ []) m = omega arith
arm_steps calls.DisableHard (called.Disable ∷ called.HardClear ∷ []) m = omega arith
arm_steps (calls.Wake x) (called.Wake woken dev ∷ []) m = omega arith
arm_steps (calls.Quiet x) (called.Quiet dev ∷ []) m = omega arith
arm_steps (calls.Arm x) (called.Arm edge dev ∷ []) m = arm_once edge
arm_steps (calls.Serve x) (called.Serve dev served ∷ []) m = omega arith
arm_steps c cs m = absurd m

arm_step : (e : Entry) → driver_arms e ≤ total (λ call. one_if (arms_with_edge call)) (step_in e)
arm_step (by.DriverCall r call) = omega arith
arm_step e = omega arith

arms_alone : (e : Entry) → is_by_any_driver e ≡ false → driver_arms e ≡ 0
arms_alone (by.DriverCall r call) other = cc
arms_alone e other = refl

pub arms_of_drivers : (def : LineDef) (past : List Entry) → IsLegalPast def past → total driver_arms past ≤ count_of (λ c. is_arm_call c.1) def.calls
arms_of_drivers def past legal =
    let all = of_drivers driver_arms (λ c. one_if (is_arm_call c))
    (runs_cost (λ call. one_if (arms_with_edge call)) (λ c. one_if (is_arm_call c)) arm_steps driver_arms arm_step)
    arms_alone def past (λ r. follows_past def past legal (actors.Driver r)) in
    let sum = count_total (λ (c : DriverNo × Call). is_arm_call c.1) def.calls in
    omega (arith, all, sum)

-- ---- all edges

edge_more : (e : Entry) → one_if (is_device_edge e) ≤ one_if (is_any_ask e) + driver_arms e + run_arms e
edge_more (by.Driver r (drivers.Ask edge x)) = most edge
  where
    most : (b : Bool) → one_if b ≤ 1 + 0 + 0
    most true = omega arith
    most false = omega arith
edge_more (by.CpuCall c call) = omega arith
edge_more (by.ThreadCall x call) = omega arith
edge_more (by.DriverCall r call) = omega arith
edge_more e = omega arith

pub edges_past : (past : List Entry) → count_of is_device_edge past ≤ count_of is_any_ask past + total driver_arms past + total run_arms past
edges_past [] = omega arith
edges_past (e ∷ past) =
    let r = edges_past past in
    let m = edge_more e in
    let a = count_more is_device_edge e past in
    let b = count_more is_any_ask e past in
    omega (arith, r, m, a, b)

pub edges_counted : (def : LineDef) (past : List Entry) → IsValid def → HasValidRuns def → IsLegalPast def past
    → count_of is_device_edge past ≤ device_edges def + count_of (λ c. is_arm_call c.1) def.calls
edges_counted def past valid runs legal =
    let e = edges_past past in
    let a = asks_of_drivers def past legal in
    let d = arms_of_drivers def past legal in
    let r = arms_of_runs def runs past valid legal in
    let s = total_sum (λ x. edges_by_arms def x.dev x.kind) def.devices in
    omega (arith, e, a, d, r, s)
