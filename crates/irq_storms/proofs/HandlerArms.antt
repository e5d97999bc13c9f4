-- The edges that handlers make as they turn a device's interrupt on: of direct devices alone, and in
-- runs that met something unserved.
use Rattle.std.proofs.Common.{◌≡◌, ℕ, ◌+◌, ◌-◌, ◌*◌, ◌≤◌, Bool, true, false, not, ◌||◌, ◌&&◌, cond, nat_lt, Option}
use Rattle.std.proofs.Common.{Some, None, List, [], ◌∷◌, refl, sym, ap, ◌∙◌, subst, arith}
use Rattle.std.proofs.Math.Nat.{mul-add, mul-one, mul-le-mul_left}
use Rattle.std.proofs.lemmas.Bool.{and_parts}
use Rattle.irq_base.specs.declared.numbers.CpuNo.{CpuNo}
use Rattle.irq_base.specs.declared.numbers.DevNo.{DevNo}
use Rattle.irq_base.specs.declared.calls.Call.{Call}
use Rattle.irq_base.specs.declared.calls.Call.TheVariants as calls
use Rattle.irq_base.specs.declared.devices.Answer.{Answer}
use Rattle.irq_base.specs.declared.devices.Answer.TheVariants as answers
use Rattle.irq_base.specs.declared.devices.Kind.{Kind}
use Rattle.irq_base.specs.declared.devices.Kind.TheVariants as kinds
use Rattle.irq_base.specs.declared.devices.Part.TheVariants as parts
use Rattle.irq_base.specs.declared.devices.ToldAnswer.{ToldAnswer}
use Rattle.irq_base.specs.declared.lines.LineDef.{LineDef}
use Rattle.irq_base.specs.declared.entries.Entry.{Entry}
use Rattle.irq_base.specs.declared.entries.Entry.TheVariants as by
use Rattle.irq_base.specs.declared.entries.CpuEntry.TheVariants as cpus
use Rattle.irq_base.specs.declared.entries.CallEntry.{CallEntry}
use Rattle.irq_base.specs.declared.entries.CallEntry.TheVariants as called
use Rattle.irq_base.specs.Handlers.{answer_of}
use Rattle.irq_model.specs.Places.{since, before, count_of}
use Rattle.irq_model.specs.Kinds.{same_dev, is_ask, is_begin_or_return}
use Rattle.irq_model.specs.Lines.{kind_of, run_script}
use Rattle.irq_model.specs.Asks.{begins_run, unserved_asks}
use Rattle.irq_model.specs.Rounds.{at_work}
use Rattle.irq_model.specs.Reason.{is_called}
use Rattle.irq_model.specs.Runs.{met_by, told_of, is_recognised, makes_calls, entries_of_run}
use Rattle.irq_model.specs.Due.{due_of}
use Rattle.irq_model.specs.RunBounds.{arms_this, arms_of}
use Rattle.irq_model.specs.ValidRuns.{HasValidRuns, is_direct}
use Rattle.irq_model.specs.Legal.{IsLegalPast}
use Rattle.irq_model.proofs.Same.{same_self, dev_from_same}
use Rattle.irq_laws.proofs.Chosen.{the_same}
use Rattle.irq_laws.proofs.ScriptLaws.{runs_past}
use Rattle.irq_laws.proofs.Lists.{both_ways}
use Rattle.irq_laws.proofs.ImpliesCall.{step_row}
use Rattle.irq_laws.proofs.ImpliesFlow.{begin_due, return_due, handler_call_due, IsHandlerCallDue}
use Rattle.irq_laws.proofs.Standstill.{run_stands}
use Rattle.irq_storms.specs.Judged.{one_if}
use Rattle.irq_storms.specs.Tests.{total}
use Rattle.irq_storms.proofs.Counting.{count_total}
use Rattle.irq_storms.proofs.HandlerRuns.{made_most}
use Rattle.irq_storms.proofs.Meeting.{meetings, direct_serves}
use Rattle.irq_storms.proofs.ArmCosts.{edge_arm, arm_cost, arm_weight, handler_arms, handler_made, handlers_alone, arm_call}
use Rattle.irq_storms.proofs.Paying.{sum_over, StaysPaid, is_paid, sum_below}

-- ---- who arms

-- the handler that arms d is d's, it is direct, and met something
pub record Arms (def : LineDef) (past : List Entry) (d : DevNo) : Type 0 where
  pub is_at_work : at_work past ≡ Some d
  pub direct : kind_of def d ≡ kinds.Direct
  pub met : nat_lt 0 (met_by def parts.Primary d past) ≡ true

direct_kind : (k : Kind) → is_direct k ≡ true → k ≡ kinds.Direct
direct_kind kinds.Direct h = refl
direct_kind k h = cc

pub some_due : (m : Bool) (o : Option (Call × ℕ)) (due : Call × ℕ) → cond m o None ≡ Some due → m ≡ true
some_due true o due h = refl
some_due false o due h = cc

recognises : (n : ℕ) (told : Option ToldAnswer) → is_recognised (answer_of kinds.Direct parts.Primary n told) ≡ true → nat_lt 0 n ≡ true
recognises n told h = by_test (nat_lt 0 n) h
  where
    by_test : (b : Bool) → is_recognised (cond b answers.Handled answers.Nothing) ≡ true → b ≡ true
    by_test true h = refl
    by_test false h = cc

arms_own : (def : LineDef) (c : CpuNo) (edge : Bool) (x d : DevNo) (past : List Entry) → HasValidRuns def → same_dev d x ≡ true
    → IsHandlerCallDue def c (called.Arm edge x) past → Arms def past d
arms_own def c edge x d past runs same u =
    let row = step_row def (Some u.due) u.due.0 u.due.1 past (called.Arm edge x) refl u.step in
    let a = arm_call def (Some u.due) past edge x row in
    let stands = run_stands def past parts.Primary u.dev (calls.Arm x) a.0 runs (u.is_due ∙ a.1) in
    let parts_are = and_parts (same_dev u.dev x) (is_direct (kind_of def u.dev)) stands in
    let own : u.dev ≡ d = dev_from_same u.dev x parts_are.0 ∙ sym (dev_from_same d x same) in
    let kind : kind_of def u.dev ≡ kinds.Direct = direct_kind (kind_of def u.dev) parts_are.1 in
    let makes : makes_calls def parts.Primary u.dev past ≡ true =
    some_due (makes_calls def parts.Primary u.dev past)
    (due_of (run_script def u.dev parts.Primary) (entries_of_run parts.Primary u.dev past)) u.due u.is_due in
    let known : is_recognised (answer_of kinds.Direct parts.Primary (met_by def parts.Primary u.dev past) (told_of def parts.Primary u.dev past)) ≡ true =
    ap (λ (k : Kind). is_recognised (answer_of k parts.Primary (met_by def parts.Primary u.dev past)
    (told_of def parts.Primary u.dev past))) (sym kind) ∙ makes in
    subst (λ (y : DevNo). Arms def past y) own
    (record { is_at_work = u.is_at_work; direct = kind; met = recognises (met_by def parts.Primary u.dev past) (told_of def parts.Primary u.dev past) known })

arms_this_one : (d : DevNo) (call : CallEntry) → edge_arm d call ≡ true → (edge : Bool) × (x : DevNo) × (call ≡ called.Arm edge x) × (same_dev d x ≡ true)
arms_this_one d (called.Arm edge x) h = (edge, x, refl, (and_parts edge (same_dev d x) h).1)
arms_this_one d call h = cc

pub who_arms : (def : LineDef) (c : CpuNo) (call : CallEntry) (d : DevNo) (past : List Entry) → HasValidRuns def → edge_arm d call ≡ true
    → IsHandlerCallDue def c call past → Arms def past d
who_arms def c call d past runs h u =
    let a = arms_this_one d call h in
    arms_own def c a.0 a.1 d past runs a.3 (subst (λ (y : CallEntry). IsHandlerCallDue def c y past) a.2 u)

-- ---- of a direct device

pub times_sum : (p : Entry → List Entry → Bool) (w : ℕ) (past : List Entry) → sum_over (λ e past. cond (p e past) w 0) past
    ≡ w * sum_over (λ e past. one_if (p e past)) past
times_sum p w [] = omega arith
times_sum p w (e ∷ past) =
    let r = times_sum p w past in
    let m = mul-add w (one_if (p e past)) (sum_over (λ e past. one_if (p e past)) past) in
    let o = one (p e past) in
    omega (arith, r, m, o)
  where
    one : (b : Bool) → cond b w 0 ≡ w * one_if b
    one true = sym (mul-one w)
    one false = omega arith

module _ (def : LineDef) (runs : HasValidRuns def) (d : DevNo) where
  abbrev all : ℕ
  all = total (arm_weight d) (run_script def d parts.Primary)

  abbrev made : List Entry → ℕ
  made past = total (handler_arms d) (since is_begin_or_return past)

  abbrev active : List Entry → Bool
  active past = is_called past d && nat_lt 0 (met_by def parts.Primary d past)

  abbrev rest : List Entry → ℕ
  rest past = cond (active past) (all - made past) 0

  abbrev meets_d : Entry → List Entry → Bool
  meets_d e past = begins_run parts.Primary d e && nat_lt 0 (unserved_asks def d past)

  abbrev Paid : Entry → List Entry → Type 0
  Paid e past = StaysPaid (λ e past. handler_arms d e) (λ e past. cond (meets_d e past) all 0) rest e past

  same_rest : (a : Bool) (m m' : ℕ) → m' ≡ m → 0 + cond a (all - m') 0 ≤ cond a (all - m) 0 + 0
  same_rest true m m' h = omega (arith, h)
  same_rest false m m' h = omega arith

  none_called : (past : List Entry) → IsLegalPast def past → at_work past ≡ None → is_called past d ≡ false
  none_called past legal none = by_test (is_called past d) refl
    where
      by_test : (b : Bool) → is_called past d ≡ b → b ≡ false
      by_test false is = refl
      by_test true is = let a = (runs_past def past legal).called d is in let n = sym a ∙ none in cc

  at_begin : (c : CpuNo) (x : DevNo) (past : List Entry) → IsLegalPast def (by.Cpu c (cpus.Begin x) ∷ past) → Paid (by.Cpu c (cpus.Begin x)) past
  at_begin c x past legal = by_tests (same_dev d x) (is_called past d) (none_called past legal.1 (begin_due def c x past legal.0).none_at_work)
    where
      by_met : (m : Bool) → 0 + cond (true && m) (all - 0) 0 ≤ rest past + cond (true && m) all 0
      by_met true = omega arith
      by_met false = omega arith

      by_tests : (s k : Bool) → k ≡ false
          → 0 + cond ((s || (true && k)) && nat_lt 0 (unserved_asks def d (cond s past (before (begins_run parts.Primary d) past)))) (all - 0) 0
          ≤ rest past + cond (s && nat_lt 0 (unserved_asks def d past)) all 0
      by_tests true k h = by_met (nat_lt 0 (unserved_asks def d past))
      by_tests false false h = omega arith
      by_tests false true h = cc

  at_return : (c : CpuNo) (x : DevNo) (answer : Answer) (n : ℕ) (past : List Entry) → IsLegalPast def (by.Cpu c (cpus.Return answer x n) ∷ past)
      → Paid (by.Cpu c (cpus.Return answer x n)) past
  at_return c x answer n past legal = by_tests (same_dev d x) (is_called past d) refl refl
    where
      by_tests : (s k : Bool) → same_dev d x ≡ s → is_called past d ≡ k
          → 0 + cond ((false || (not s && k)) && nat_lt 0 (met_by def parts.Primary d past)) (all - 0) 0 ≤ rest past + 0
      by_tests true k is ik = omega arith
      by_tests false false is ik = omega arith
      by_tests false true is ik =
          let a = (runs_past def past legal.1).called d ik in
          let b = (return_due def c x answer n past legal.0).is_at_work in
          let same = the_same d x (sym a ∙ b) in
          both_ways (same_dev d x) (subst (λ (y : DevNo). same_dev d y ≡ true) same (same_self d)) is

  at_call : (c : CpuNo) (call : CallEntry) (past : List Entry) → IsLegalPast def (by.CpuCall c call ∷ past) → Paid (by.CpuCall c call) past
  at_call c call past legal = by_test (edge_arm d call) refl
    where
      by_test : (b : Bool) → edge_arm d call ≡ b → Paid (by.CpuCall c call) past
      by_test false is = let s = same_rest (active past) (made past) (made (by.CpuCall c call ∷ past))
          (let z : arm_cost d call ≡ 0 = ap one_if is in omega (arith, z)) in
          let z : arm_cost d call ≡ 0 = ap one_if is in omega (arith, s, z)
      by_test true is =
          let u = who_arms def c call d past runs is (handler_call_due def c call past legal.0) in
          let most : made (by.CpuCall c call ∷ past) ≤ all =
          made_most (handler_arms d) (arm_weight d) (handler_made d) (handlers_alone d) def (by.CpuCall c call ∷ past) legal d u.is_at_work in
          let called_now : is_called past d ≡ true = ((runs_past def past legal.1).working d u.is_at_work).0 in
          let was : rest past ≡ all - made past = ap (λ (b : Bool). cond b (all - made past) 0)
          (both (is_called past d) (nat_lt 0 (met_by def parts.Primary d past)) called_now u.met) in
          let is_now : rest (by.CpuCall c call ∷ past) ≡ all - made (by.CpuCall c call ∷ past) =
          ap (λ (b : Bool). cond b (all - made (by.CpuCall c call ∷ past)) 0)
          (both (is_called past d) (nat_lt 0 (met_by def parts.Primary d past)) called_now u.met) in
          omega (arith, most, was, is_now)
        where
          both : (a b : Bool) → a ≡ true → b ≡ true → (a && b) ≡ true
          both a b h i = grind arith

  arms_more : (e : Entry) (past : List Entry) → IsLegalPast def (e ∷ past) → Paid e past
  arms_more (by.Cpu c (cpus.Begin x)) past legal = at_begin c x past legal
  arms_more (by.Cpu c (cpus.Return answer x n)) past legal = at_return c x answer n past legal
  arms_more (by.CpuCall c call) past legal = at_call c call past legal
  arms_more e past legal = same_rest (active past) (made past) (made (e ∷ past)) (omega arith)

  pub direct_arms : (past : List Entry) → IsLegalPast def past → kind_of def d ≡ kinds.Direct
      → sum_over (λ e past. handler_arms d e) past ≤ arms_of def parts.Primary d * count_of (is_ask d) past
  direct_arms past legal is =
      let p = is_paid def (λ e past. handler_arms d e) (λ e past. cond (meets_d e past) all 0) rest refl arms_more past legal in
      let t = times_sum meets_d all past in
      let m = meetings def parts.Primary d (direct_serves def d is) past legal in
      let s = mul-le-mul_left all m in
      let same : arms_of def parts.Primary d * count_of (is_ask d) past ≡ all * count_of (is_ask d) past =
      ap (λ (n : ℕ). n * count_of (is_ask d) past) (count_total (arms_this d) (run_script def d parts.Primary)) in
      omega (arith, p, t, s, same)

  none_arm : (e : Entry) (past : List Entry) → IsLegalPast def (e ∷ past) → (kind_of def d ≡ kinds.Direct → ⊥) → handler_arms d e ≤ 0
  none_arm (by.CpuCall c call) past legal other = by_test (edge_arm d call) refl
    where
      by_test : (b : Bool) → edge_arm d call ≡ b → one_if b ≤ 0
      by_test true is = absurd (other (who_arms def c call d past runs is (handler_call_due def c call past legal.0)).direct)
      by_test false is = omega arith
  none_arm e past legal other = omega arith

  pub other_arms : (past : List Entry) → IsLegalPast def past → (kind_of def d ≡ kinds.Direct → ⊥) → sum_over (λ e past. handler_arms d e) past ≤ 0
  other_arms past legal other = let s = sum_below def (λ e past. handler_arms d e) (λ e past. 0) (λ e past l. none_arm e past l other) past legal in
      let z = no_sum past in omega (arith, s, z)
    where
      no_sum : (past : List Entry) → sum_over (λ e past. 0) past ≡ 0
      no_sum [] = refl
      no_sum (e ∷ past) = let r = no_sum past in omega (arith, r)
