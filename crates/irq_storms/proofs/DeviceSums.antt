-- Over all devices of a line: the served asks and the unserved asks together are all asks.
use Rattle.std.proofs.Common.{◌≡◌, ℕ, zero, suc, ◌+◌, ◌≤◌, ◌==◌, Bool, true, false, ◌||◌, cond, List, [], ◌∷◌, refl, sym, ap, subst, arith}
use Rattle.std.specs.List.{list_any}
use Rattle.std.proofs.lemmas.Bool.{or_parts, false_from_ne_true}
use Rattle.irq_base.specs.declared.numbers.DevNo.{DevNo}
use Rattle.irq_base.specs.declared.devices.DeviceDef.{DeviceDef}
use Rattle.irq_base.specs.declared.calls.Call.TheVariants as calls
use Rattle.irq_base.specs.declared.lines.LineDef.{LineDef}
use Rattle.irq_base.specs.declared.entries.Entry.{Entry}
use Rattle.irq_base.specs.declared.entries.Entry.TheVariants as by
use Rattle.irq_base.specs.declared.entries.CpuEntry.TheVariants as cpus
use Rattle.irq_base.specs.declared.entries.ThreadEntry.TheVariants as threads
use Rattle.irq_base.specs.declared.entries.DriverEntry.TheVariants as drivers
use Rattle.irq_base.specs.declared.entries.CallEntry.{CallEntry}
use Rattle.irq_base.specs.declared.entries.CallEntry.TheVariants as called
use Rattle.irq_model.specs.Places.{count_of}
use Rattle.irq_model.specs.Kinds.{is_any_ask, is_ask}
use Rattle.irq_model.specs.Lines.{is_device}
use Rattle.irq_model.specs.Asks.{unserved_asks}
use Rattle.irq_model.specs.Due.{entries_by}
use Rattle.irq_model.specs.Legal.{IsDue, IsLegalPast}
use Rattle.irq_model.specs.Valid.{IsValid, HasDistinctDevices, names_one_of}
use Rattle.irq_model.proofs.Same.{dev_from_same}
use Rattle.irq_laws.proofs.ImpliesDriver.{ask_due}
use Rattle.irq_laws.proofs.Lists.{both_ways}
use Rattle.irq_laws.proofs.Requested.{due_passes}
use Rattle.irq_storms.specs.Tests.{asks_served, all_served, served_to, served_by_call, is_any_serving, total}
use Rattle.irq_storms.specs.Judged.{one_if}
use Rattle.irq_storms.proofs.Counting.{count_more, count_ext, count_total, total_ext, total_at, total_below, below_zero}
use Rattle.irq_storms.proofs.Counting.{below_more, below_all, at_key, totals_by_key}
use Rattle.irq_storms.proofs.ThreadCounts.{dev_key, call_key}
use Rattle.irq_storms.proofs.ServedCounts.{served_exactly, key_ask, some_if}

-- ---- sums that agree at each key

module _ {A B C : Type 0} (ka : A → ℕ) (va : A → ℕ) (xs : List A) (kb : B → ℕ) (vb : B → ℕ) (ys : List B) (kc : C → ℕ) (vc : C → ℕ) (zs : List C) where
  sums_below : (m : ℕ) → ((k : ℕ) → total_at ka va k xs + total_at kb vb k ys ≡ total_at kc vc k zs)
      → total_below ka va m xs + total_below kb vb m ys ≡ total_below kc vc m zs
  sums_below zero h = let a = below_zero ka va xs in let b = below_zero kb vb ys in let c = below_zero kc vc zs in omega (arith, a, b, c)
  sums_below (suc m) h =
      let a = below_more ka va m xs in
      let b = below_more kb vb m ys in
      let c = below_more kc vc m zs in
      let r = sums_below m h in
      let here = h m in
      omega (arith, a, b, c, r, here)

  sums_by_key : ((k : ℕ) → total_at ka va k xs + total_at kb vb k ys ≡ total_at kc vc k zs) → total va xs + total vb ys ≡ total vc zs
  sums_by_key h =
      let m = total (λ x. ka x + 1) xs + (total (λ y. kb y + 1) ys + total (λ z. kc z + 1) zs) in
      let a = below_all ka va m xs (omega arith) in
      let b = below_all kb vb m ys (omega arith) in
      let c = below_all kc vc m zs (omega arith) in
      let r = sums_below m h in
      omega (arith, a, b, c, r)

-- ---- one device among the devices of the line

abbrev pub number : DeviceDef → ℕ
number x = x.dev.0

not_here : (b : Bool) (n : ℕ) → b ≡ false → cond b n 0 ≡ 0
not_here true n h = cc
not_here false n h = refl

here : (b : Bool) (n : ℕ) → b ≡ true → cond b n 0 ≡ n
here true n h = refl
here false n h = cc

pub absent : (f : DevNo → ℕ) (d : DevNo) (xs : List DeviceDef) → list_any (is_device d) xs ≡ false → total_at number (λ x. f x.dev) d.0 xs ≡ 0
absent f d [] h = refl
absent f d (x ∷ xs) h =
    let p = or_parts (is_device d x) (list_any (is_device d) xs) h in
    let a = not_here (is_device d x) (f x.dev) p.0 in
    let r = absent f d xs p.1 in
    omega (arith, a, r)

pub present : (f : DevNo → ℕ) (d : DevNo) (xs : List DeviceDef) → HasDistinctDevices xs → list_any (is_device d) xs ≡ true
    → total_at number (λ x. f x.dev) d.0 xs ≡ f d
present f d [] apart h = cc
present f d (x ∷ xs) apart h = by_test (is_device d x) refl h (λ t. present f d xs apart.1 t)
  where
    by_test : (b : Bool) → is_device d x ≡ b → (b || list_any (is_device d) xs) ≡ true
        → (list_any (is_device d) xs ≡ true → total_at number (λ x. f x.dev) d.0 xs ≡ f d)
        → cond b (f x.dev) 0 + total_at number (λ x. f x.dev) d.0 xs ≡ f d
    by_test true is any deeper =
        let same = dev_from_same d x.dev is in
        let none = absent f d xs (subst (λ (y : DevNo). list_any (is_device y) xs ≡ false) (sym same) apart.0) in
        let is_f : f x.dev ≡ f d = ap f (sym same) in
        omega (arith, none, is_f)
    by_test false is any deeper = let r = deeper any in omega (arith, r)

-- ---- an ask names a device of the line

ask_named : (def : LineDef) (d : DevNo) (e : Entry) (past : List Entry) → IsValid def → IsDue def e past
    → is_ask d e ≡ true → list_any (is_device d) def.devices ≡ true
ask_named def d (by.Driver r (drivers.Ask makes x)) past valid due h =
    let u = ask_due def r x makes past due in
    subst (λ (y : DevNo). list_any (is_device y) def.devices ≡ true) (sym (dev_from_same d x h))
    (due_passes (names_one_of def.devices) r def.calls (entries_by r past) (calls.Ask x) u.count valid.calls u.call)
ask_named def d e past valid due h = cc

no_asks : (def : LineDef) (d : DevNo) (past : List Entry) → IsValid def → IsLegalPast def past
    → list_any (is_device d) def.devices ≡ false → count_of (is_ask d) past ≡ 0
no_asks def d [] valid legal none = refl
no_asks def d (e ∷ past) valid legal none =
    let m = count_more (is_ask d) e past in
    let r = no_asks def d past valid legal.1 none in
    let n : one_if (is_ask d e) ≡ 0 = ap one_if (false_from_ne_true (is_ask d e) (λ h. both_ways _ (ask_named def d e past valid legal.0 h) none)) in
    omega (arith, m, r, n)

unserved_at : (def : LineDef) (d : DevNo) (past : List Entry) → IsValid def → IsLegalPast def past
    → total_at number (λ x. unserved_asks def x.dev past) d.0 def.devices ≡ unserved_asks def d past
unserved_at def d past valid legal = by_test (list_any (is_device d) def.devices) refl
  where
    by_test : (b : Bool) → list_any (is_device d) def.devices ≡ b
        → total_at number (λ x. unserved_asks def x.dev past) d.0 def.devices ≡ unserved_asks def d past
    by_test true is = present (λ y. unserved_asks def y past) d def.devices valid.distinct is
    by_test false is =
        let a = absent (λ y. unserved_asks def y past) d def.devices is in
        let s = served_exactly def d past legal in
        let n = no_asks def d past valid legal is in
        omega (arith, a, s, n)

-- ---- all devices

no_weight : (b : Bool) → ◌≡◌ {A = ℕ} (cond b 0 0) 0
no_weight true = refl
no_weight false = refl

key_call : (k : ℕ) (call : CallEntry) → cond (k == call_key call) (served_by_call call) 0 ≡ served_to (record { 0 = k }) call
key_call k (called.Serve dev served) = refl
key_call k call = no_weight (k == call_key call)

key_served : (k : ℕ) (e : Entry) → cond (k == dev_key e) (all_served e) 0 ≡ asks_served (record { 0 = k }) e
key_served k (by.Cpu cpu (cpus.Return answer dev served)) = refl
key_served k (by.Thread dev (threads.Return handled served)) = refl
key_served k (by.CpuCall cpu call) = key_call k call
key_served k (by.ThreadCall dev call) = key_call k call
key_served k (by.DriverCall driver call) = key_call k call
key_served k e = no_weight (k == dev_key e)

at_device : (def : LineDef) (past : List Entry) → IsLegalPast def past → (k : ℕ)
    → total_at dev_key all_served k past + unserved_asks def (record { 0 = k }) past ≡ total_at dev_key (λ e. one_if (is_any_ask e)) k past
at_device def past legal k =
    let d : DevNo = record { 0 = k } in
    let s : total_at dev_key all_served k past ≡ total (asks_served d) past = total_ext _ _ past (key_served k) in
    let x = served_exactly def d past legal in
    let a = count_ext _ _ past (key_ask k) in
    let b = at_key dev_key past is_any_ask k in
    omega (arith, s, x, a, b)

pub served_of_all : (def : LineDef) (past : List Entry) → IsValid def → IsLegalPast def past
    → total all_served past + total (λ x. unserved_asks def x.dev past) def.devices ≡ count_of is_any_ask past
served_of_all def past valid legal =
    let sums = sums_by_key dev_key all_served past number (λ x. unserved_asks def x.dev past) def.devices dev_key (λ e. one_if (is_any_ask e)) past each in
    let asks = count_total is_any_ask past in
    omega (arith, sums, asks)
  where
    each : (k : ℕ) → total_at dev_key all_served k past + total_at number (λ x. unserved_asks def x.dev past) k
        def.devices ≡ total_at dev_key (λ e. one_if (is_any_ask e)) k past
    each k =
        let d : DevNo = record { 0 = k } in
        let u = unserved_at def d past valid legal in
        let h = at_device def past legal k in
        omega (arith, u, h)

-- ---- the entries that served something

servings : (past : List Entry) → count_of is_any_serving past ≤ total all_served past
servings [] = omega arith
servings (e ∷ past) =
    let m = count_more is_any_serving e past in
    let r = servings past in
    let s = some_if (all_served e) in
    omega (arith, m, r, s)

pub served_past : (def : LineDef) (past : List Entry) → IsLegalPast def past → count_of is_any_serving past ≤ count_of is_any_ask past
served_past def past legal =
    let s = servings past in
    let all = totals_by_key dev_key all_served past dev_key (λ e. one_if (is_any_ask e)) past
    (λ k. let h = at_device def past legal k in omega (arith, h)) in
    let asks = count_total is_any_ask past in
    omega (arith, s, all, asks)
