-- The entries of threads are paid by the wakes of threads.
use Rattle.std.proofs.Common.{◌≡◌, ℕ, ◌+◌, ◌*◌, ◌≤◌, ◌==◌, Bool, true, false, ◌&&◌, cond, List, [], ◌∷◌, refl, sym, ap, ◌∙◌, arith}
use Rattle.std.proofs.Math.Nat.{mul-add, mul-le-mul_left, mul_comm}
use Rattle.std.proofs.lemmas.List.Sums.{sum_by-cons}
use Rattle.std.specs.List.{sum_by}
use Rattle.irq_base.specs.declared.numbers.DevNo.{DevNo}
use Rattle.irq_base.specs.declared.devices.Part.TheVariants as parts
use Rattle.irq_base.specs.declared.lines.LineDef.{LineDef}
use Rattle.irq_base.specs.declared.entries.Entry.{Entry}
use Rattle.irq_base.specs.declared.entries.Entry.TheVariants as by
use Rattle.irq_base.specs.declared.entries.CpuEntry.TheVariants as cpus
use Rattle.irq_base.specs.declared.entries.ThreadEntry.TheVariants as threads
use Rattle.irq_base.specs.declared.entries.CallEntry.{CallEntry}
use Rattle.irq_base.specs.declared.entries.CallEntry.TheVariants as called
use Rattle.irq_model.specs.Places.{count_of}
use Rattle.irq_model.specs.Kinds.{is_wake, wakes, wakes_by_call, is_thread_begin, is_thread_return, is_thread_call, is_finish, is_done}
use Rattle.irq_model.specs.Lines.{run_script}
use Rattle.irq_model.specs.RunBounds.{weight_of, script_weight}
use Rattle.irq_model.specs.Legal.{IsLegalPast}
use Rattle.irq_model.proofs.Same.{dev_from_same}
use Rattle.irq_storms.specs.Judged.{one_if}
use Rattle.irq_storms.specs.Tests.{total}
use Rattle.irq_storms.proofs.Counting.{count_more, total_at, total_ext, totals_by_key}
use Rattle.irq_storms.proofs.CallCosts.{step_cost, wake_cost, thread_cost, thread_call}
use Rattle.irq_storms.proofs.ThreadCounts.{dev_key, call_key, begins_of, returns_of, finishes_of, dones_of}
use Rattle.irq_storms.proofs.ThreadRuns.{thread_paid}
use Rattle.irq_storms.proofs.Paying.{sum_over}

-- a run of d's thread: it begins, returns, finishes and is done, and makes its calls
abbrev pub thread_weight : LineDef → DevNo → ℕ
thread_weight def d = 4 + script_weight def parts.Thread d

-- what an entry of a thread costs
abbrev pub of_thread : Entry → ℕ
of_thread (by.Thread dev e) = 1
of_thread (by.ThreadCall dev call) = step_cost call
of_thread _ = 0

-- what the wake of an entry pays
abbrev pub wake_pays : LineDef → Entry → ℕ
wake_pays def (by.Cpu cpu (cpus.Return answer dev served)) = cond (is_wake answer) (thread_weight def dev) 0
wake_pays def (by.CpuCall cpu call) = wake_cost (thread_weight def) call
wake_pays def (by.ThreadCall dev call) = wake_cost (thread_weight def) call
wake_pays def (by.DriverCall driver call) = wake_cost (thread_weight def) call
wake_pays def _ = 0

-- ---- of one device

pub total_sum : {A : Type 0} (f : A → ℕ) (xs : List A) → total f xs ≡ sum_by f xs
total_sum f [] = refl
total_sum f (x ∷ xs) = let r = total_sum f xs in let c = sum_by-cons f x xs in omega (arith, r, c)

abbrev thread_key : Entry → ℕ
thread_key (by.Thread dev e) = dev.0
thread_key (by.ThreadCall dev call) = dev.0
thread_key _ = 0

no_weight : (b : Bool) → ◌≡◌ {A = ℕ} (cond b 0 0) 0
no_weight true = refl
no_weight false = refl

no_call : (d : DevNo) (e : Entry) → is_thread_call d e ≡ false → thread_cost d e ≡ 0
no_call d (by.ThreadCall x call) other = ap (λ (b : Bool). cond b (step_cost call) 0) other
no_call d e other = refl

-- the entries of d's thread, each of one kind
abbrev five : DevNo → Entry → ℕ
five d e = one_if (is_thread_begin d e) + one_if (is_thread_return d e) + one_if (is_finish d e) + one_if (is_done d e) + thread_cost d e

at_thread : (k : ℕ) (e : Entry) → cond (k == thread_key e) (of_thread e) 0 ≡ five (record { 0 = k }) e
at_thread k (by.Thread x threads.Begin) = omega arith
at_thread k (by.Thread x (threads.Return handled served)) = omega arith
at_thread k (by.Thread x (threads.Finish kept unmask)) = omega arith
at_thread k (by.Thread x threads.Done) = omega arith
at_thread k (by.ThreadCall x call) = omega arith
at_thread k e = no_weight (k == thread_key e)

five_kinds : (d : DevNo) (past : List Entry) → total (five d) past
    ≡ count_of (is_thread_begin d) past + count_of (is_thread_return d) past + count_of (is_finish d) past + count_of (is_done d) past
    + sum_over (λ e past. thread_cost d e) past
five_kinds d [] = refl
five_kinds d (e ∷ past) =
    let r = five_kinds d past in
    let b = count_more (is_thread_begin d) e past in
    let t = count_more (is_thread_return d) e past in
    let f = count_more (is_finish d) e past in
    let o = count_more (is_done d) e past in
    omega (arith, r, b, t, f, o)

times_weight : (p : Entry → Bool) (w : ℕ) (past : List Entry) → w * count_of p past ≡ total (λ e. cond (p e) w 0) past
times_weight p w [] = omega arith
times_weight p w (e ∷ past) = by_test (p e) (times_weight p w past)
  where
    by_test : (b : Bool) → w * count_of p past ≡ total (λ e. cond (p e) w 0) past
        → w * cond b (count_of p past + 1) (count_of p past) ≡ cond b w 0 + total (λ e. cond (p e) w 0) past
    by_test true h = let m = mul-add w (count_of p past) 1 in omega (arith, h, m)
    by_test false h = omega (arith, h)

call_pays : (def : LineDef) (k : ℕ) (call : CallEntry)
    → cond (wakes_by_call (record { 0 = k }) call) (thread_weight def (record { 0 = k })) 0 ≡ cond (k == call_key call) (wake_cost (thread_weight def) call) 0
call_pays def k (called.Wake woken x) = both woken (k == x.0) refl
  where
    both : (a b : Bool) → (k == x.0) ≡ b → cond (a && b) (thread_weight def (record { 0 = k })) 0 ≡ cond b (cond a (thread_weight def x) 0) 0
    both true true is = ap (thread_weight def) (dev_from_same (record { 0 = k }) x is)
    both true false is = refl
    both false b is = sym (no_weight b)
call_pays def k call = sym (no_weight (k == call_key call))

at_wake : (def : LineDef) (k : ℕ) (e : Entry)
    → cond (wakes (record { 0 = k }) e) (thread_weight def (record { 0 = k })) 0 ≡ cond (k == dev_key e) (wake_pays def e) 0
at_wake def k (by.Cpu c (cpus.Return answer x served)) = both (k == x.0) (is_wake answer) refl
  where
    both : (a b : Bool) → (k == x.0) ≡ a → cond (a && b) (thread_weight def (record { 0 = k })) 0 ≡ cond a (cond b (thread_weight def x) 0) 0
    both true true is = ap (thread_weight def) (dev_from_same (record { 0 = k }) x is)
    both true false is = refl
    both false b is = refl
at_wake def k (by.CpuCall c call) = call_pays def k call
at_wake def k (by.ThreadCall x call) = call_pays def k call
at_wake def k (by.DriverCall r call) = call_pays def k call
at_wake def k e = sym (no_weight (k == dev_key e))

-- ---- of all devices

at_key : (def : LineDef) (past : List Entry) → IsLegalPast def past → (k : ℕ)
    → total_at thread_key of_thread k past ≤ total_at dev_key (wake_pays def) k past
at_key def past legal k =
    let d : DevNo = record { 0 = k } in
    let s : total_at thread_key of_thread k past ≡ total (five d) past = total_ext _ _ past (at_thread k) in
    let kinds = five_kinds d past in
    let begins = begins_of def d past legal in
    let returns = returns_of def d past legal in
    let finishes = finishes_of def d past legal in
    let dones = dones_of def d past legal in
    let paid = thread_paid d (thread_cost d) weight_of (thread_call d) (no_call d) def past legal in
    let script : total weight_of (run_script def d parts.Thread) ≡ script_weight def parts.Thread d = total_sum weight_of (run_script def d parts.Thread) in
    let most = mul-le-mul_left (script_weight def parts.Thread d) (less _ _ _ begins) in
    let same : total weight_of (run_script def d parts.Thread) * count_of (is_thread_begin d) past
    ≡ script_weight def parts.Thread d * count_of (is_thread_begin d) past =
    ap (λ (n : ℕ). n * count_of (is_thread_begin d) past) script in
    let all : thread_weight def d * count_of (wakes d) past ≡ 4 * count_of (wakes d) past + script_weight def parts.Thread d * count_of (wakes d) past =
    mul_comm (thread_weight def d) (count_of (wakes d) past) ∙ mul-add (count_of (wakes d) past) 4 (script_weight def parts.Thread d)
    ∙ (let m = mul_comm (count_of (wakes d) past) 4 in let n = mul_comm (count_of (wakes d) past) (script_weight def parts.Thread d) in omega (arith, m, n)) in
    let weights = times_weight (wakes d) (thread_weight def d) past in
    let wake : total (λ e. cond (wakes d e) (thread_weight def d) 0) past ≡ total_at dev_key (wake_pays def) k past = total_ext _ _ past (at_wake def k) in
    omega (arith, s, kinds, begins, returns, finishes, dones, paid, most, same, all, weights, wake)
  where
    less : (b m w : ℕ) → b + m ≤ w → b ≤ w
    less b m w h = omega (arith, h)

pub threads_paid : (def : LineDef) (past : List Entry) → IsLegalPast def past → total of_thread past ≤ total (wake_pays def) past
threads_paid def past legal = totals_by_key thread_key of_thread past dev_key (wake_pays def) past (at_key def past legal)
