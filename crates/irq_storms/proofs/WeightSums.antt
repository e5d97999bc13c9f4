-- The weight of a round, in the weights of its handlers' runs; and what a driver's call weighs.
use Rattle.std.proofs.Common.{◌≡◌, ℕ, ◌+◌, ◌*◌, ◌≤◌, ◌==◌, Bool, true, false, not, ◌||◌, ◌&&◌, cond, List, [], ◌∷◌, All, refl, ap, ◌∙◌, arith}
use Rattle.std.proofs.Math.Nat.{mul-add}
use Rattle.std.proofs.lemmas.List.Elements.{All-head, All-tail}
use Rattle.std.specs.List.{list_any}
use Rattle.irq_base.specs.declared.numbers.DevNo.{DevNo}
use Rattle.irq_base.specs.declared.numbers.DriverNo.{DriverNo}
use Rattle.irq_base.specs.declared.calls.Call.{Call}
use Rattle.irq_base.specs.declared.calls.Call.TheVariants as calls
use Rattle.irq_base.specs.declared.devices.DeviceDef.{DeviceDef}
use Rattle.irq_base.specs.declared.devices.Part.{Part}
use Rattle.irq_base.specs.declared.devices.Part.TheVariants as parts
use Rattle.irq_base.specs.declared.lines.LineDef.{LineDef}
use Rattle.irq_model.specs.Places.{count_of}
use Rattle.irq_model.specs.Kinds.{same_dev}
use Rattle.irq_model.specs.Lines.{is_device, same_part, script_in, run_script}
use Rattle.irq_model.specs.Bounds.{is_ask_call, ask_calls, other_calls}
use Rattle.irq_model.specs.RunBounds.{weight_of, device_weight, wake_weight, round_weight}
use Rattle.irq_model.specs.Valid.{IsValid, HasDistinctDevices}
use Rattle.irq_model.specs.ValidRuns.{HasValidRuns, names_own_device}
use Rattle.irq_model.proofs.Same.{dev_from_same}
use Rattle.irq_storms.specs.Judged.{one_if}
use Rattle.irq_storms.specs.Tests.{total}
use Rattle.irq_storms.proofs.Counting.{count_more, total_at, total_ext, total_sum as total_parts, totals_by_key}
use Rattle.irq_storms.proofs.CallCosts.{call_weight, woken_weight, driver_weight}
use Rattle.irq_storms.proofs.DeviceSums.{number, present, absent}
use Rattle.irq_storms.proofs.LongBound.{handler_weight}
use Rattle.irq_storms.proofs.WakeCosts.{thread_weight, total_sum}

-- ---- the wakes that stand in handlers' scripts

abbrev run_key : DevNo × Part × Call → ℕ
run_key c = c.0.0

script_total : (f : Call → ℕ) (d : DevNo) (part : Part) (runs : List (DevNo × Part × Call))
    → total f (script_in runs d part) ≡ total (λ c. cond (same_dev d c.0 && same_part part c.1) (f c.2) 0) runs
script_total f d part [] = refl
script_total f d part (c ∷ cs) = by_test (same_dev d c.0 && same_part part c.1) (script_total f d part cs)
  where
    by_test : (b : Bool) → total f (script_in cs d part) ≡ total (λ c. cond (same_dev d c.0 && same_part part c.1) (f c.2) 0) cs
        → total f (cond b (c.2 ∷ script_in cs d part) (script_in cs d part))
        ≡ cond b (f c.2) 0 + total (λ c. cond (same_dev d c.0 && same_part part c.1) (f c.2) 0) cs
    by_test true h = omega (arith, h)
    by_test false h = omega (arith, h)

no_weight : (b : Bool) → ◌≡◌ {A = ℕ} (cond b 0 0) 0
no_weight true = refl
no_weight false = refl

same_cond : (a b : Bool) (n : ℕ) → b ≡ true → cond (a && b) n 0 ≡ cond a n 0
same_cond true true n h = refl
same_cond false b n h = refl
same_cond true false n h = cc

no_cond : (a b : Bool) (n : ℕ) → b ≡ false → cond (a && b) n 0 ≡ cond a 0 0
no_cond true false n h = refl
no_cond false b n h = refl
no_cond true true n h = cc

wake_at : (def : LineDef) (k : ℕ) (d : DevNo) (part : Part) (c : Call)
    → cond (k == d.0 && same_part parts.Primary part) (woken_weight (thread_weight def) c) 0 ≡ cond (k == d.0) (wake_weight def (d, part, c)) 0
wake_at def k d parts.Primary (calls.Wake x) = same_cond (k == d.0) true _ refl
wake_at def k d parts.Primary c = same_cond (k == d.0) true _ refl
wake_at def k d parts.Thread c = no_cond (k == d.0) false _ refl

-- of one device
abbrev pub wakes_in : LineDef → DevNo → ℕ
wakes_in def d = total (woken_weight (thread_weight def)) (run_script def d parts.Primary)

wakes_at : (def : LineDef) (k : ℕ) → wakes_in def (record { 0 = k }) ≡ total_at run_key (wake_weight def) k def.runs
wakes_at def k =
    script_total (woken_weight (thread_weight def)) (record { 0 = k }) parts.Primary def.runs
    ∙ total_ext _ _ def.runs (λ c. wake_at def k c.0 c.1 c.2)

device_at : (f : DevNo → ℕ) (d : DevNo) (xs : List DeviceDef) → HasDistinctDevices xs → total_at number (λ x. f x.dev) d.0 xs ≤ f d
device_at f d xs apart = by_test (list_any (is_device d) xs) refl
  where
    by_test : (b : Bool) → list_any (is_device d) xs ≡ b → total_at number (λ x. f x.dev) d.0 xs ≤ f d
    by_test true is = let p = present f d xs apart is in omega (arith, p)
    by_test false is = let n = absent f d xs is in omega (arith, n)

wakes_below : (def : LineDef) → IsValid def → total (λ x. wakes_in def x.dev) def.devices ≤ total (wake_weight def) def.runs
wakes_below def valid =
    totals_by_key number (λ x. wakes_in def x.dev) def.devices run_key (wake_weight def) def.runs
    (λ k. let a = device_at (wakes_in def) (record { 0 = k }) def.devices valid.distinct in let b = wakes_at def k in omega (arith, a, b))

-- ---- all handlers' runs of a round

handler_parts : (def : LineDef) (x : DeviceDef) → handler_weight def x.dev ≡ device_weight def x + wakes_in def x.dev
handler_parts def x =
    let parts_are : total (call_weight (thread_weight def)) (run_script def x.dev parts.Primary)
    ≡ total weight_of (run_script def x.dev parts.Primary) + wakes_in def x.dev
    = total_parts _ weight_of (woken_weight (thread_weight def)) (run_script def x.dev parts.Primary) (λ c. refl) in
    let s = total_sum weight_of (run_script def x.dev parts.Primary) in
    omega (arith, parts_are, s)

abbrev pub all_handlers : LineDef → ℕ
all_handlers def = total (λ x. handler_weight def x.dev) def.devices

pub round_pays : (def : LineDef) → IsValid def → 8 + all_handlers def ≤ round_weight def
round_pays def valid =
    let p = total_parts (λ x. handler_weight def x.dev) (device_weight def) (λ x. wakes_in def x.dev) def.devices (handler_parts def) in
    let d = total_sum (device_weight def) def.devices in
    let w = wakes_below def valid in
    let r = total_sum (wake_weight def) def.runs in
    omega (arith, p, d, w, r)

-- ---- the calls of drivers

one_of_all : (f : DevNo → ℕ) (d : DevNo) (xs : List DeviceDef) → list_any (is_device d) xs ≡ true → f d ≤ total (λ x. f x.dev) xs
one_of_all f d [] there = cc
one_of_all f d (x ∷ xs) there = by_test (is_device d x) refl there (λ t. one_of_all f d xs t)
  where
    by_test : (b : Bool) → is_device d x ≡ b → (b || list_any (is_device d) xs) ≡ true
        → (list_any (is_device d) xs ≡ true → f d ≤ total (λ x. f x.dev) xs) → f d ≤ f x.dev + total (λ x. f x.dev) xs
    by_test true is any deeper = let same : f d ≡ f x.dev = ap f (dev_from_same d x.dev is) in omega (arith, same)
    by_test false is any deeper = let r = deeper any in omega (arith, r)

abbrev pub is_arm_call : Call → Bool
is_arm_call (calls.Arm dev) = true
is_arm_call _ = false

-- n: what an edge pays for
abbrev CallPays : LineDef → ℕ → ℕ → Call → Type 0
CallPays def n f c = n * one_if (is_arm_call c) + driver_weight (thread_weight def) c ≤ one_if (is_ask_call c) + f * one_if (not (is_ask_call c))

a_call : (def : LineDef) (f : ℕ) (c : Call) → HasValidRuns def → names_own_device def c ≡ true
    → 8 + all_handlers def ≤ f → CallPays def (3 + all_handlers def) f c
a_call def f (calls.Ask d) runs named most = omega arith
a_call def f (calls.Wake d) runs named most =
    let one = one_of_all (handler_weight def) d def.devices named in
    omega (arith, one, most)
a_call def f (calls.Arm d) runs named most = omega (arith, most)
a_call def f c runs named most = omega (arith, most)

-- the calls of drivers, and the edges of their arms
all_calls : (def : LineDef) (f : ℕ) → HasValidRuns def → 8 + all_handlers def ≤ f → (cs : List (DriverNo × Call))
    → All (λ c. names_own_device def c.1 ≡ true) cs
    → (3 + all_handlers def) * count_of (λ c. is_arm_call c.1) cs + total (λ c. driver_weight (thread_weight def) c.1) cs
    ≤ count_of (λ c. is_ask_call c.1) cs + f * count_of (λ c. not (is_ask_call c.1)) cs
all_calls def f runs most [] named = omega arith
all_calls def f runs most (c ∷ cs) named =
    let r = all_calls def f runs most cs (All-tail (λ c. names_own_device def c.1 ≡ true) c cs named) in
    let one = a_call def f c.1 runs (All-head (λ c. names_own_device def c.1 ≡ true) c cs named) most in
    let arms = count_more (λ (c : DriverNo × Call). is_arm_call c.1) c cs in
    let asks = count_more (λ (c : DriverNo × Call). is_ask_call c.1) c cs in
    let others = count_more (λ (c : DriverNo × Call). not (is_ask_call c.1)) c cs in
    summed (3 + all_handlers def) f _ _ _ _ _ _ _ _ _ _ _ arms asks others r one
  where
    summed : (n f a' a x b' b y c' c z t w : ℕ) → a' ≡ a + x → b' ≡ b + y → c' ≡ c + z → n * a + t ≤ b + f * c → n * x + w ≤ y + f * z
        → n * a' + (w + t) ≤ b' + f * c'
    summed n f a' a x b' b y c' c z t w h i j k l =
        let p : n * a' ≡ n * a + n * x = ap (λ (m : ℕ). n * m) h ∙ mul-add n a x in
        let q : f * c' ≡ f * c + f * z = ap (λ (m : ℕ). f * m) j ∙ mul-add f c z in
        omega (arith, p, q, i, k, l)

pub calls_paid : (def : LineDef) → IsValid def → HasValidRuns def
    → (3 + all_handlers def) * count_of (λ c. is_arm_call c.1) def.calls + total (λ c. driver_weight (thread_weight def) c.1) def.calls
    ≤ ask_calls def + round_weight def * other_calls def
calls_paid def valid runs = all_calls def (round_weight def) runs (round_pays def valid) def.calls runs.named_by_drivers
