-- The edges that a device makes as its own runs turn its interrupt on: each is a call of a script.
use Rattle.std.proofs.Common.{◌≡◌, ℕ, ◌+◌, ◌≤◌, Bool, true, false, ◌&&◌, cond, Option, Some, List, [], ◌∷◌, refl, ap, ◌∙◌, subst, arith}
use Rattle.irq_base.specs.declared.numbers.DevNo.{DevNo}
use Rattle.irq_base.specs.declared.calls.Call.{Call}
use Rattle.irq_base.specs.declared.calls.Call.TheVariants as calls
use Rattle.irq_base.specs.declared.lines.LineDef.{LineDef}
use Rattle.irq_base.specs.declared.entries.Entry.{Entry}
use Rattle.irq_base.specs.declared.entries.Entry.TheVariants as by
use Rattle.irq_base.specs.declared.entries.CallEntry.{CallEntry}
use Rattle.irq_base.specs.declared.entries.CallEntry.TheVariants as called
use Rattle.irq_base.specs.declared.entries.UnlinkAnswer.TheVariants as unlinks
use Rattle.irq_model.specs.Kinds.{same_dev, is_cpu_call, is_thread_call}
use Rattle.irq_model.specs.Scripts.{MakesSteps, MakesAll, step_in}
use Rattle.irq_model.specs.RunBounds.{arms_this}
use Rattle.irq_laws.proofs.ImpliesCall.{Row, unlink, free_clear, freed, disable, disable_clear, disable_synced, nosync, enable}
use Rattle.irq_laws.proofs.ImpliesCall.{sync_clear, synced, hard, hard_disable, hard_disable_clear, wake, quiet, arm, serve}
use Rattle.irq_storms.specs.Judged.{one_if}
use Rattle.irq_storms.specs.Tests.{total}
use Rattle.irq_storms.proofs.CallCosts.{runs_cost}

-- d makes an edge by a call
abbrev pub edge_arm : DevNo → CallEntry → Bool
edge_arm d (called.Arm edge dev) = edge && same_dev d dev
edge_arm d _ = false

abbrev pub arm_cost : DevNo → CallEntry → ℕ
arm_cost d call = one_if (edge_arm d call)

abbrev pub arm_weight : DevNo → Call → ℕ
arm_weight d c = one_if (arms_this d c)

-- by a handler, and by d's thread
abbrev pub handler_arms : DevNo → Entry → ℕ
handler_arms d (by.CpuCall cpu call) = arm_cost d call
handler_arms d _ = 0

abbrev pub thread_arms : DevNo → Entry → ℕ
thread_arms d (by.ThreadCall dev call) = cond (same_dev d dev) (arm_cost d call) 0
thread_arms d _ = 0

arms_once : (d x dev : DevNo) (edge : Bool) → dev ≡ x → one_if (edge && same_dev d dev) + 0 ≤ one_if (same_dev d x)
arms_once d x dev edge same = subst (λ (y : DevNo). one_if (edge && same_dev d dev) + 0 ≤ one_if (same_dev d y)) same (by_tests edge (same_dev d dev))
  where
    by_tests : (a b : Bool) → one_if (a && b) + 0 ≤ one_if b
    by_tests true true = omega arith
    by_tests true false = omega arith
    by_tests false b = omega arith

arm_steps : (d : DevNo) (c : Call) (cs : List CallEntry) → MakesSteps c cs → total (arm_cost d) cs ≤ arm_weight d c
arm_steps d (calls.Free x) (called.Unlink unlinks.NotThere dev ∷ []) m = omega arith
arm_steps d (calls.Free x) (called.Unlink (unlinks.Unlinked last) dev ∷ called.HardClear ∷ called.Freed gone ∷ []) m = omega arith
arm_steps d calls.Disable (called.Disable ∷ called.HardClear ∷ called.Synced ∷ []) m = omega arith
arm_steps d calls.DisableNosync (called.Disable ∷ []) m = omega arith
arm_steps d calls.Enable (called.Enable answer ∷ []) m = omega arith
arm_steps d calls.Sync (called.HardClear ∷ called.Synced ∷ []) m = omega arith
arm_steps d calls.SyncHard (called.HardClear ∷ []) m = omega arith
arm_steps d calls.DisableHard (called.Disable ∷ called.HardClear ∷ []) m = omega arith
arm_steps d (calls.Wake x) (called.Wake woken dev ∷ []) m = omega arith
arm_steps d (calls.Quiet x) (called.Quiet dev ∷ []) m = omega arith
arm_steps d (calls.Arm x) (called.Arm edge dev ∷ []) m = arms_once d x dev edge m
arm_steps d (calls.Serve x) (called.Serve dev served ∷ []) m = omega arith
arm_steps d c cs m = absurd m

handler_step : (d : DevNo) (e : Entry) → handler_arms d e ≤ total (arm_cost d) (step_in e)
handler_step d (by.CpuCall c call) = omega arith
handler_step d e = omega arith

no_more : (b : Bool) (n : ℕ) → cond b n 0 ≤ n + 0
no_more true n = omega arith
no_more false n = omega arith

thread_step : (d : DevNo) (e : Entry) → thread_arms d e ≤ total (arm_cost d) (step_in e)
thread_step d (by.ThreadCall x call) = no_more (same_dev d x) (arm_cost d call)
thread_step d e = omega arith

pub handler_made : (d : DevNo) (c : Call) (es : List Entry) → MakesAll c es → total (handler_arms d) es ≤ arm_weight d c
handler_made d = runs_cost (arm_cost d) (arm_weight d) (arm_steps d) (handler_arms d) (handler_step d)

pub thread_made : (d : DevNo) (c : Call) (es : List Entry) → MakesAll c es → total (thread_arms d) es ≤ arm_weight d c
thread_made d = runs_cost (arm_cost d) (arm_weight d) (arm_steps d) (thread_arms d) (thread_step d)

pub handlers_alone : (d : DevNo) (e : Entry) → is_cpu_call e ≡ false → handler_arms d e ≡ 0
handlers_alone d (by.CpuCall c call) other = cc
handlers_alone d e other = refl

pub thread_alone : (d : DevNo) (e : Entry) → is_thread_call d e ≡ false → thread_arms d e ≡ 0
thread_alone d (by.ThreadCall x call) other = ap (λ (b : Bool). cond b (arm_cost d call) 0) other
thread_alone d e other = refl

-- ---- the due call of an arm

pub arm_call : (def : LineDef) (due : Option (Call × ℕ)) (past : List Entry) (edge : Bool) (d : DevNo) → Row def due past (called.Arm edge d)
    → (n : ℕ) × (due ≡ Some (calls.Arm d, n))
arm_call def due past edge d (arm x n is same) = let s : x ≡ d = cc in (n, is ∙ ap (λ (y : DevNo). Some (calls.Arm y, n)) s)
arm_call def due past edge d (unlink x is free same) = cc
arm_call def due past edge d (free_clear x is no_flow same) = cc
arm_call def due past edge d (freed x n is some more rest same) = cc
arm_call def due past edge d (disable is same) = cc
arm_call def due past edge d (disable_clear is no_flow same) = cc
arm_call def due past edge d (disable_synced n is some more rest same) = cc
arm_call def due past edge d (nosync n is same) = cc
arm_call def due past edge d (enable n is same) = cc
arm_call def due past edge d (sync_clear is no_flow same) = cc
arm_call def due past edge d (synced n is some rest same) = cc
arm_call def due past edge d (hard n is no_flow same) = cc
arm_call def due past edge d (hard_disable is same) = cc
arm_call def due past edge d (hard_disable_clear n is some no_flow same) = cc
arm_call def due past edge d (quiet x n is same) = cc
arm_call def due past edge d (wake x n is same) = cc
arm_call def due past edge d (serve x n is same) = cc
