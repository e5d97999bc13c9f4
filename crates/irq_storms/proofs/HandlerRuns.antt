-- What the runs of handlers cost, with the threads that they wake, is paid as they begin.
use Rattle.std.proofs.Common.{◌≡◌, ℕ, ◌+◌, ◌-◌, ◌≤◌, Bool, true, false, cond, Option, Some, None, is_some, List, []}
use Rattle.std.proofs.Common.{◌∷◌, filter, refl, sym, ap, ap₂, ◌∙◌, subst, arith}
use Rattle.irq_base.specs.declared.numbers.CpuNo.{CpuNo}
use Rattle.irq_base.specs.declared.numbers.DevNo.{DevNo}
use Rattle.irq_base.specs.declared.calls.Call.{Call}
use Rattle.irq_base.specs.declared.devices.Part.TheVariants as parts
use Rattle.irq_base.specs.declared.lines.LineDef.{LineDef}
use Rattle.irq_base.specs.declared.entries.Actor.TheVariants as actors
use Rattle.irq_base.specs.declared.entries.Entry.{Entry}
use Rattle.irq_base.specs.declared.entries.Entry.TheVariants as by
use Rattle.irq_base.specs.declared.entries.CpuEntry.TheVariants as cpus
use Rattle.irq_model.specs.Places.{since}
use Rattle.irq_model.specs.Kinds.{is_begin_or_return, is_cpu_call}
use Rattle.irq_model.specs.Lines.{run_script}
use Rattle.irq_model.specs.Rounds.{flow, is_cpu, at_work}
use Rattle.irq_model.specs.Runs.{makes_calls, entries_of_run}
use Rattle.irq_model.specs.RunLaws.{calls_of_run}
use Rattle.irq_model.specs.Scripts.{AreMadeBy, MakesAll}
use Rattle.irq_model.specs.Legal.{IsLegalPast}
use Rattle.irq_model.proofs.Same.{same_self_cpu}
use Rattle.irq_laws.specs.Actors.{calls_of, entries_of, calls_at_work, entries_at_work}
use Rattle.irq_laws.proofs.ScriptLaws.{runs_past, follows_past}
use Rattle.irq_laws.proofs.ImpliesFlow.{begin_due, return_due, handler_call_due}
use Rattle.irq_storms.specs.Tests.{total}
use Rattle.irq_storms.proofs.Counting.{total_ext}
use Rattle.irq_storms.proofs.Weights.{total_back, total_kept, made_total}
use Rattle.irq_storms.proofs.CallCosts.{call_cost, call_weight, handler_cost, handler_call}
use Rattle.irq_storms.proofs.Paying.{sum_over, StaysPaid, is_paid}

some_flow : (o : Option CpuNo) → is_some o ≡ true → (c : CpuNo) × (o ≡ Some c)
some_flow None h = cc
some_flow (Some c) h = (c, refl)

-- the calls of the handler that is at work are those of its script
pub handler_follows : (def : LineDef) (past : List Entry) → IsLegalPast def past → (d : DevNo) → at_work past ≡ Some d
    → AreMadeBy (calls_of_run def parts.Primary d past) (entries_of_run parts.Primary d past)
handler_follows def past legal d w =
    let f = some_flow (flow def past) ((runs_past def past legal).working d w).1 in
    let here : is_cpu f.0 (flow def past) ≡ true = ap (is_cpu f.0) f.1 ∙ same_self_cpu f.0 in
    let calls_are : calls_of def (actors.Cpu f.0) past ≡ calls_of_run def parts.Primary d past =
    ap₂ (λ (b : Bool) (o : Option DevNo). cond b (calls_at_work def o past) []) here w in
    let entries_are : entries_of def (actors.Cpu f.0) past ≡ entries_of_run parts.Primary d past =
    ap₂ (λ (b : Bool) (o : Option DevNo). cond b (entries_at_work o past) []) here w in
    subst (λ (x : List Call). AreMadeBy x (entries_of_run parts.Primary d past)) calls_are
    (subst (λ (x : List Entry). AreMadeBy (calls_of def (actors.Cpu f.0) past) x) entries_are (follows_past def past legal (actors.Cpu f.0)))

-- what an entry of a handler's call weighs, and what its call weighs at most
module _ (f : Entry → ℕ) (w : Call → ℕ) (most : (c : Call) (es : List Entry) → MakesAll c es → total f es ≤ w c)
    (handlers_alone : (e : Entry) → is_cpu_call e ≡ false → f e ≡ 0) where
  abbrev pub made_so_far : List Entry → ℕ
  made_so_far past = total f (since is_begin_or_return past)

  alone : (e : Entry) → cond (is_cpu_call e) (f e) 0 ≡ f e
  alone e = by_test (is_cpu_call e) refl
    where
      by_test : (b : Bool) → is_cpu_call e ≡ b → cond b (f e) 0 ≡ f e
      by_test true is = refl
      by_test false is = sym (handlers_alone e is)

  some_calls : (b : Bool) (cs : List Call) → total w (cond b cs []) ≤ total w cs
  some_calls true cs = omega arith
  some_calls false cs = omega arith

  -- no more than its script
  pub made_most : (def : LineDef) (past : List Entry) → IsLegalPast def past → (d : DevNo) → at_work past ≡ Some d
      → made_so_far past ≤ total w (run_script def d parts.Primary)
  made_most def past legal d at =
      let made = made_total f w most (calls_of_run def parts.Primary d past) (entries_of_run parts.Primary d past) (handler_follows def past legal d at) in
      let back : total f (entries_of_run parts.Primary d past) ≡ total f (filter is_cpu_call (since is_begin_or_return past)) =
      total_back f (filter is_cpu_call (since is_begin_or_return past)) in
      let kept = total_kept f is_cpu_call (since is_begin_or_return past) in
      let all = total_ext (λ e. cond (is_cpu_call e) (f e) 0) f (since is_begin_or_return past) alone in
      let few = some_calls (makes_calls def parts.Primary d past) (run_script def d parts.Primary) in
      omega (arith, made, back, kept, all, few)

-- ---- each run pays for itself and for the threads that it wakes

no_call_cost : (h : DevNo → ℕ) (e : Entry) → is_cpu_call e ≡ false → handler_cost h e ≡ 0
no_call_cost h (by.CpuCall c call) other = cc
no_call_cost h e other = refl

-- h: what a run of a device's thread costs
module _ (def : LineDef) (h : DevNo → ℕ) where
  abbrev pub script_cost : DevNo → ℕ
  script_cost d = total (call_weight h) (run_script def d parts.Primary)

  abbrev made : List Entry → ℕ
  made past = total (handler_cost h) (since is_begin_or_return past)

  abbrev rest_of : List Entry → Option DevNo → ℕ
  rest_of past None = 0
  rest_of past (Some d) = 1 + h d + (script_cost d - made past)

  abbrev pub run_cost : Entry → List Entry → ℕ
  run_cost (by.Cpu cpu (cpus.Begin dev)) past = 1
  run_cost (by.Cpu cpu (cpus.Return answer dev served)) past = 1 + h dev
  run_cost (by.CpuCall cpu call) past = call_cost h call
  run_cost _ past = 0

  abbrev pub run_pays : Entry → ℕ
  run_pays (by.Cpu cpu (cpus.Begin dev)) = 2 + h dev + script_cost dev
  run_pays _ = 0

  abbrev rest : List Entry → ℕ
  rest past = rest_of past (at_work past)

  same_rest : (past later : List Entry) (o : Option DevNo) → made later ≡ made past → rest_of later o ≡ rest_of past o
  same_rest past later None same = refl
  same_rest past later (Some d) same = ap (λ (n : ℕ). 1 + h d + (script_cost d - n)) same

  stays : (r r' : ℕ) → r' ≡ r → 0 + r' ≤ r + 0
  stays r r' same = omega (arith, same)

  run_more : (e : Entry) (past : List Entry) → IsLegalPast def (e ∷ past) → StaysPaid run_cost (λ e past. run_pays e) rest e past
  run_more (by.Cpu c (cpus.Begin x)) past legal =
      let none : rest past ≡ 0 = ap (rest_of past) (begin_due def c x past legal.0).none_at_work in
      omega (arith, none)
  run_more (by.Cpu c (cpus.Return answer x served)) past legal =
      let was : rest past ≡ rest_of past (Some x) = ap (rest_of past) (return_due def c x answer served past legal.0).is_at_work in
      omega (arith, was)
  run_more (by.CpuCall c call) past legal =
      let u = handler_call_due def c call past legal.0 in
      let was : rest past ≡ rest_of past (Some u.dev) = ap (rest_of past) u.is_at_work in
      let is : rest (by.CpuCall c call ∷ past) ≡ rest_of (by.CpuCall c call ∷ past) (Some u.dev) =
      ap (rest_of (by.CpuCall c call ∷ past)) u.is_at_work in
      let most : call_cost h call + made past ≤ script_cost u.dev =
      made_most (handler_cost h) (call_weight h) (handler_call h) (no_call_cost h) def (by.CpuCall c call ∷ past) legal u.dev u.is_at_work in
      omega (arith, was, is, most)
  run_more e past legal = stays _ _ (same_rest past (e ∷ past) (at_work past) (omega arith))

  pub runs_paid : (past : List Entry) → IsLegalPast def past → sum_over run_cost past ≤ sum_over (λ e past. run_pays e) past
  runs_paid past legal = let p = is_paid def run_cost (λ e past. run_pays e) rest refl run_more past legal in omega (arith, p)
