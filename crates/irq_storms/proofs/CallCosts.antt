-- What the step of a call costs: one entry, two more if it starts the line, and a run of the thread
-- that it wakes. A call costs no more than its weight.
use Rattle.std.proofs.Common.{◌≡◌, ℕ, ◌+◌, ◌*◌, ◌≤◌, Bool, true, false, cond, List, [], ◌∷◌, length, refl, ap, arith}
use Rattle.irq_base.specs.declared.numbers.DevNo.{DevNo}
use Rattle.irq_base.specs.declared.calls.Call.{Call}
use Rattle.irq_base.specs.declared.calls.Call.TheVariants as calls
use Rattle.irq_base.specs.declared.entries.Entry.{Entry}
use Rattle.irq_base.specs.declared.entries.Entry.TheVariants as by
use Rattle.irq_base.specs.declared.entries.DriverEntry.TheVariants as drivers
use Rattle.irq_base.specs.declared.entries.CallEntry.{CallEntry}
use Rattle.irq_base.specs.declared.entries.CallEntry.TheVariants as called
use Rattle.irq_base.specs.declared.entries.UnlinkAnswer.TheVariants as unlinks
use Rattle.irq_model.specs.Kinds.{same_dev, is_started_opened, opened_by_call, is_start}
use Rattle.irq_model.specs.Scripts.{MakesSteps, MakesAll, steps_in, step_in}
use Rattle.irq_model.specs.RunBounds.{weight_of}
use Rattle.irq_laws.proofs.ScriptLaws.{is_shared, shared_all, few_steps}
use Rattle.irq_storms.specs.Judged.{one_if}
use Rattle.irq_storms.specs.Tests.{total, is_by_any_driver}

abbrev pub starting_cost : Bool → ℕ
starting_cost b = 1 + 2 * one_if b

abbrev pub step_cost : CallEntry → ℕ
step_cost call = starting_cost (is_started_opened (opened_by_call call))

-- h: what a run of a device's thread costs
abbrev pub wake_cost : (DevNo → ℕ) → CallEntry → ℕ
wake_cost h (called.Wake woken dev) = cond woken (h dev) 0
wake_cost h _ = 0

abbrev pub call_cost : (DevNo → ℕ) → CallEntry → ℕ
call_cost h call = step_cost call + wake_cost h call

abbrev pub woken_weight : (DevNo → ℕ) → Call → ℕ
woken_weight h (calls.Wake dev) = h dev
woken_weight h _ = 0

abbrev pub call_weight : (DevNo → ℕ) → Call → ℕ
call_weight h c = weight_of c + woken_weight h c

starts_once : (b : Bool) → starting_cost b + 0 + 0 ≤ 3 + 0
starts_once true = omega arith
starts_once false = omega arith

wakes_once : (b : Bool) (n : ℕ) → 1 + cond b n 0 + 0 ≤ 1 + n
wakes_once true n = omega arith
wakes_once false n = omega arith

pub steps_cost : (h : DevNo → ℕ) (c : Call) (cs : List CallEntry) → MakesSteps c cs → total (call_cost h) cs ≤ call_weight h c
steps_cost h (calls.Free d) (called.Unlink unlinks.NotThere dev ∷ []) m = omega arith
steps_cost h (calls.Free d) (called.Unlink (unlinks.Unlinked last) dev ∷ called.HardClear ∷ called.Freed freed ∷ []) m = omega arith
steps_cost h calls.Disable (called.Disable ∷ called.HardClear ∷ called.Synced ∷ []) m = omega arith
steps_cost h calls.DisableNosync (called.Disable ∷ []) m = omega arith
steps_cost h calls.Enable (called.Enable answer ∷ []) m = starts_once (is_started_opened (opened_by_call (called.Enable answer)))
steps_cost h calls.Sync (called.HardClear ∷ called.Synced ∷ []) m = omega arith
steps_cost h calls.SyncHard (called.HardClear ∷ []) m = omega arith
steps_cost h calls.DisableHard (called.Disable ∷ called.HardClear ∷ []) m = omega arith
steps_cost h (calls.Wake d) (called.Wake woken dev ∷ []) m =
    let w = wakes_once woken (h dev) in
    let same : h dev ≡ h d = ap h m in
    omega (arith, w, same)
steps_cost h (calls.Quiet d) (called.Quiet dev ∷ []) m = omega arith
steps_cost h (calls.Arm d) (called.Arm edge dev ∷ []) m = omega arith
steps_cost h (calls.Serve d) (called.Serve dev served ∷ []) m = omega arith
steps_cost h c cs m = absurd m

-- ---- in entries

-- of handlers
abbrev pub handler_cost : (DevNo → ℕ) → Entry → ℕ
handler_cost h (by.CpuCall cpu call) = call_cost h call
handler_cost h _ = 0

-- of d's thread, which wakes none
abbrev pub thread_cost : DevNo → Entry → ℕ
thread_cost d (by.ThreadCall dev call) = cond (same_dev d dev) (step_cost call) 0
thread_cost d _ = 0

-- of drivers
abbrev pub driver_cost : (DevNo → ℕ) → Entry → ℕ
driver_cost h (by.DriverCall driver call) = call_cost h call
driver_cost h (by.Driver driver e) = starting_cost (is_start (by.Driver driver e))
driver_cost h _ = 0

no_more : (b : Bool) (n m : ℕ) → cond b n 0 ≤ (n + m) + 0
no_more true n m = omega arith
no_more false n m = omega arith

handler_step : (h : DevNo → ℕ) (e : Entry) → handler_cost h e ≤ total (call_cost h) (step_in e)
handler_step h (by.CpuCall c call) = omega arith
handler_step h e = omega arith

thread_step : (d : DevNo) (h : DevNo → ℕ) (e : Entry) → thread_cost d e ≤ total (call_cost h) (step_in e)
thread_step d h (by.ThreadCall x call) = no_more (same_dev d x) (step_cost call) (wake_cost h call)
thread_step d h e = omega arith

-- k: what a step costs; w: what the steps of a call cost at most; f: an entry costs no more than its step
module _ (k : CallEntry → ℕ) (w : Call → ℕ) (steps : (c : Call) (cs : List CallEntry) → MakesSteps c cs → total k cs ≤ w c)
    (f : Entry → ℕ) (most : (e : Entry) → f e ≤ total k (step_in e)) where
  steps_in_cost : (es : List Entry) → total f es ≤ total k (steps_in es)
  steps_in_cost [] = omega arith
  steps_in_cost (by.CpuCall c call ∷ es) = let m = most (by.CpuCall c call) in let r = steps_in_cost es in omega (arith, m, r)
  steps_in_cost (by.ThreadCall x call ∷ es) = let m = most (by.ThreadCall x call) in let r = steps_in_cost es in omega (arith, m, r)
  steps_in_cost (by.DriverCall s call ∷ es) = let m = most (by.DriverCall s call) in let r = steps_in_cost es in omega (arith, m, r)
  steps_in_cost (by.Cpu c e ∷ es) = let m = most (by.Cpu c e) in let r = steps_in_cost es in omega (arith, m, r)
  steps_in_cost (by.Thread x e ∷ es) = let m = most (by.Thread x e) in let r = steps_in_cost es in omega (arith, m, r)
  steps_in_cost (by.Driver s e ∷ es) = let m = most (by.Driver s e) in let r = steps_in_cost es in omega (arith, m, r)

  -- a call that all may make
  shared_cost : (c : Call) → is_shared c ≡ true → (es : List Entry) → MakesAll c es → total f es ≤ w c
  shared_cost c is es m =
      let all = steps_in_cost es in
      let own = steps c (steps_in es) (shared_all c is es m).0 in
      omega (arith, all, own)

  -- any call
  pub runs_cost : (c : Call) (es : List Entry) → MakesAll c es → total f es ≤ w c
  runs_cost (calls.Ask d) (by.Driver r (drivers.Ask edge dev) ∷ []) m = let n = most (by.Driver r (drivers.Ask edge dev)) in omega (arith, n)
  runs_cost (calls.Request d flags) (by.Driver r (drivers.Request given answer opened dev) ∷ []) m =
      let n = most (by.Driver r (drivers.Request given answer opened dev)) in omega (arith, n)
  runs_cost (calls.Affinity mask) (by.Driver r (drivers.Affinity answer given) ∷ []) m =
      let n = most (by.Driver r (drivers.Affinity answer given)) in omega (arith, n)
  runs_cost (calls.Moment at) (by.Driver r (drivers.Moment given) ∷ []) m = let n = most (by.Driver r (drivers.Moment given)) in omega (arith, n)
  runs_cost (calls.Free d) es m = shared_cost (calls.Free d) refl es m
  runs_cost calls.Disable es m = shared_cost calls.Disable refl es m
  runs_cost calls.DisableNosync es m = shared_cost calls.DisableNosync refl es m
  runs_cost calls.Enable es m = shared_cost calls.Enable refl es m
  runs_cost calls.Sync es m = shared_cost calls.Sync refl es m
  runs_cost calls.SyncHard es m = shared_cost calls.SyncHard refl es m
  runs_cost calls.DisableHard es m = shared_cost calls.DisableHard refl es m
  runs_cost (calls.Wake d) es m = shared_cost (calls.Wake d) refl es m
  runs_cost (calls.Quiet d) es m = shared_cost (calls.Quiet d) refl es m
  runs_cost (calls.Arm d) es m = shared_cost (calls.Arm d) refl es m
  runs_cost (calls.Serve d) es m = shared_cost (calls.Serve d) refl es m
  runs_cost c es m = absurd m.0

pub handler_call : (h : DevNo → ℕ) (c : Call) (es : List Entry) → MakesAll c es → total (handler_cost h) es ≤ call_weight h c
handler_call h = runs_cost (call_cost h) (call_weight h) (steps_cost h) (handler_cost h) (handler_step h)

no_weight : (c : Call) → call_weight (λ d. 0) c ≤ weight_of c
no_weight (calls.Wake d) = omega arith
no_weight c = omega arith

pub thread_call : (d : DevNo) (c : Call) (es : List Entry) → MakesAll c es → total (thread_cost d) es ≤ weight_of c
thread_call d c es m =
    let t = runs_cost (call_cost (λ d. 0)) (call_weight (λ d. 0)) (steps_cost (λ d. 0)) (thread_cost d) (thread_step d (λ d. 0)) c es m in
    let n = no_weight c in
    omega (arith, t, n)

-- ---- a call of a driver

-- an ask is one entry; a request may start the line
abbrev pub driver_weight : (DevNo → ℕ) → Call → ℕ
driver_weight h (calls.Request dev flags) = 3
driver_weight h c = call_weight h c

-- the entries of a call that all may make are steps
driver_steps : (h : DevNo → ℕ) (es : List Entry) → length (steps_in es) ≡ length es → total (driver_cost h) es ≤ total (call_cost h) (steps_in es)
driver_steps h [] l = omega arith
driver_steps h (by.CpuCall c call ∷ es) l = let r = driver_steps h es (omega (arith, l)) in omega (arith, r)
driver_steps h (by.ThreadCall x call ∷ es) l = let r = driver_steps h es (omega (arith, l)) in omega (arith, r)
driver_steps h (by.DriverCall s call ∷ es) l = let r = driver_steps h es (omega (arith, l)) in omega (arith, r)
driver_steps h (by.Cpu c e ∷ es) l = absurd (let f = few_steps es in omega (arith, f, l))
driver_steps h (by.Thread x e ∷ es) l = absurd (let f = few_steps es in omega (arith, f, l))
driver_steps h (by.Driver s e ∷ es) l = absurd (let f = few_steps es in omega (arith, f, l))

shared_of_driver : (h : DevNo → ℕ) (c : Call) → is_shared c ≡ true → (es : List Entry) → MakesAll c es → total (driver_cost h) es ≤ call_weight h c
shared_of_driver h c is es m =
    let all = shared_all c is es m in
    let own = driver_steps h es all.1 in
    let steps = steps_cost h c (steps_in es) all.0 in
    omega (arith, own, steps)

starts_at_most : (b : Bool) → starting_cost b + 0 ≤ 3
starts_at_most true = omega arith
starts_at_most false = omega arith

pub driver_call : (h : DevNo → ℕ) (c : Call) (es : List Entry) → MakesAll c es → total (driver_cost h) es ≤ driver_weight h c
driver_call h (calls.Ask d) (by.Driver r (drivers.Ask edge dev) ∷ []) m = omega arith
driver_call h (calls.Request d flags) (by.Driver r (drivers.Request given answer opened dev) ∷ []) m =
    starts_at_most (is_start (by.Driver r (drivers.Request given answer opened dev)))
driver_call h (calls.Affinity mask) (by.Driver r (drivers.Affinity answer given) ∷ []) m = omega arith
driver_call h (calls.Moment at) (by.Driver r (drivers.Moment given) ∷ []) m = omega arith
driver_call h (calls.Free d) es m = shared_of_driver h (calls.Free d) refl es m
driver_call h calls.Disable es m = shared_of_driver h calls.Disable refl es m
driver_call h calls.DisableNosync es m = shared_of_driver h calls.DisableNosync refl es m
driver_call h calls.Enable es m = shared_of_driver h calls.Enable refl es m
driver_call h calls.Sync es m = shared_of_driver h calls.Sync refl es m
driver_call h calls.SyncHard es m = shared_of_driver h calls.SyncHard refl es m
driver_call h calls.DisableHard es m = shared_of_driver h calls.DisableHard refl es m
driver_call h (calls.Wake d) es m = shared_of_driver h (calls.Wake d) refl es m
driver_call h (calls.Quiet d) es m = shared_of_driver h (calls.Quiet d) refl es m
driver_call h (calls.Arm d) es m = shared_of_driver h (calls.Arm d) refl es m
driver_call h (calls.Serve d) es m = shared_of_driver h (calls.Serve d) refl es m
driver_call h c es m = absurd m.0

pub drivers_cost_alone : (h : DevNo → ℕ) (e : Entry) → is_by_any_driver e ≡ false → driver_cost h e ≡ 0
drivers_cost_alone h (by.Driver driver e) other = cc
drivers_cost_alone h (by.DriverCall driver call) other = cc
drivers_cost_alone h e other = refl
