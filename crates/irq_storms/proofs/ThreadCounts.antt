-- The runs of threads, by the returns that woke them.
use Rattle.std.proofs.Common.{◌≡◌, ℕ, ◌+◌, ◌≤◌, Bool, true, false, not, ◌||◌, ◌&&◌, cond, List, [], ◌∷◌, refl, sym, subst, arith}
use Rattle.std.specs.List.{list_any}
use Rattle.irq_base.specs.declared.numbers.DevNo.{DevNo}
use Rattle.irq_base.specs.declared.lines.LineDef.{LineDef}
use Rattle.irq_base.specs.declared.entries.Entry.{Entry}
use Rattle.irq_base.specs.declared.entries.Entry.TheVariants as by
use Rattle.irq_base.specs.declared.entries.CpuEntry.TheVariants as cpus
use Rattle.irq_base.specs.declared.entries.ThreadEntry.TheVariants as threads
use Rattle.irq_base.specs.declared.entries.DriverEntry.TheVariants as drivers
use Rattle.irq_base.specs.declared.entries.CallEntry.{CallEntry}
use Rattle.irq_base.specs.declared.entries.CallEntry.TheVariants as called
use Rattle.irq_model.specs.Places.{since, count_of}
use Rattle.irq_model.specs.Kinds.{wakes, is_thread_begin, is_thread_return, is_finish, is_done}
use Rattle.irq_model.specs.Threads.{is_woken, is_running}
use Rattle.irq_model.specs.Legal.{IsDue, IsLegalPast}
use Rattle.irq_model.proofs.Same.{dev_from_same}
use Rattle.irq_laws.proofs.ImpliesThread.{has_returned, has_finished, thread_begin_due, thread_return_due, finish_due, done_due}
use Rattle.irq_storms.specs.Judged.{one_if}
use Rattle.irq_storms.proofs.Running.{StaysBelow, runs_below}

-- ---- what an entry of d's thread says when it is due

pub begin_tells : (def : LineDef) (d : DevNo) (e : Entry) (past : List Entry) → IsDue def e past
    → is_thread_begin d e ≡ true → (is_woken past d ≡ true) × (is_running past d ≡ false)
begin_tells def d (by.Thread x threads.Begin) past due h =
    let u = thread_begin_due def x past due in
    let same = sym (dev_from_same d x h) in
    (subst (λ (y : DevNo). is_woken past y ≡ true) same u.woken, subst (λ (y : DevNo). is_running past y ≡ false) same u.not_running)
begin_tells def d e past due h = cc

pub return_tells : (def : LineDef) (d : DevNo) (e : Entry) (past : List Entry) → IsDue def e past
    → is_thread_return d e ≡ true → (is_running past d ≡ true) × (has_returned past d ≡ false)
return_tells def d (by.Thread x (threads.Return handled served)) past due h =
    let u = thread_return_due def x handled served past due in
    let same = sym (dev_from_same d x h) in
    (subst (λ (y : DevNo). is_running past y ≡ true) same u.running, subst (λ (y : DevNo). has_returned past y ≡ false) same u.not_returned)
return_tells def d e past due h = cc

finish_tells : (def : LineDef) (d : DevNo) (e : Entry) (past : List Entry) → IsDue def e past → is_finish d e ≡ true
    → (is_running past d ≡ true) × (has_returned past d ≡ true) × (has_finished past d ≡ false)
finish_tells def d (by.Thread x (threads.Finish kept unmask)) past due h =
    let u = finish_due def x kept unmask past due in
    let same = sym (dev_from_same d x h) in (
      subst (λ (y : DevNo). is_running past y ≡ true) same u.running,
      subst (λ (y : DevNo). has_returned past y ≡ true)
          same u.returned,
      subst (λ (y : DevNo). has_finished past y ≡ false) same u.not_finished,
    )
finish_tells def d e past due h = cc

done_tells : (def : LineDef) (d : DevNo) (e : Entry) (past : List Entry) → IsDue def e past → is_done d e ≡ true → is_running past d ≡ true
done_tells def d (by.Thread x threads.Done) past due h
    = subst (λ (y : DevNo). is_running past y ≡ true) (sym (dev_from_same d x h)) (done_due def x past due).running
done_tells def d e past due h = cc

-- ---- one more entry, as numbers

-- b: a run begins, w: a return wakes, s: woken
woken_marks : (b w s : Bool) → (b ≡ true → s ≡ true) → one_if b + one_if (w || (not b && s)) ≤ one_if s + one_if w
woken_marks true w true h = by_wake w
  where
    by_wake : (w : Bool) → 1 + one_if (w || false) ≤ 1 + one_if w
    by_wake true = omega arith
    by_wake false = omega arith
woken_marks true w false h = let n = h refl in cc
woken_marks false true true h = omega arith
woken_marks false true false h = omega arith
woken_marks false false s h = omega arith

-- b: a run begins, t: its handler returns, o: a run is done, r: running, u: returned
returned_marks : (b t o r u : Bool) → (b ≡ true → r ≡ false) → (t ≡ true → (r ≡ true) × (u ≡ false))
    → one_if t + one_if ((b || (not o && r)) && not (cond b false (t || u))) ≤ one_if (r && not u) + one_if b
returned_marks b t o r u h i = grind arith

-- f: a finish, g: finished
finished_marks : (b t f o r u g : Bool) → (b ≡ true → r ≡ false) → (t ≡ true → (r ≡ true) × (u ≡ false)) → (f ≡ true → (r ≡ true) × (u ≡ true) × (g ≡ false))
    → one_if f + one_if ((b || (not o && r)) && not (cond b false (t || u) && cond t false (f || g))) ≤ one_if (r && not (u && g)) + one_if b
finished_marks b t f o r u g h i j = grind arith

done_marks : (b o r : Bool) → (b ≡ true → r ≡ false) → (o ≡ true → r ≡ true) → one_if o + one_if (b || (not o && r)) ≤ one_if r + one_if b
done_marks b o r h i = grind arith

-- what stands since the last of a test, with one more entry
any_since : (p : Entry → Bool) (b : Bool) (e : Entry) (xs : List Entry) → list_any p (cond b [] (e ∷ xs)) ≡ cond b false (p e || list_any p xs)
any_since p true e xs = refl
any_since p false e xs = refl

pub returned_since : (d : DevNo) (e : Entry) (past : List Entry)
    → has_returned (e ∷ past) d ≡ cond (is_thread_begin d e) false (is_thread_return d e || has_returned past d)
returned_since d e past = any_since (is_thread_return d) (is_thread_begin d e) e (since (is_thread_begin d) past)

finished_since : (d : DevNo) (e : Entry) (past : List Entry)
    → has_finished (e ∷ past) d ≡ cond (is_thread_return d e) false (is_finish d e || has_finished past d)
finished_since d e past = any_since (is_finish d) (is_thread_return d e) e (since (is_thread_return d) past)

-- ---- the counts of one device

abbrev awaits_return : DevNo → List Entry → Bool
awaits_return d past = is_running past d && not (has_returned past d)

abbrev awaits_finish : DevNo → List Entry → Bool
awaits_finish d past = is_running past d && not (has_returned past d && has_finished past d)

pub begins_of : (def : LineDef) (d : DevNo) (past : List Entry) → IsLegalPast def past
    → count_of (is_thread_begin d) past + one_if (is_woken past d) ≤ count_of (wakes d) past
begins_of def d = runs_below def (is_thread_begin d) (wakes d) (λ past. one_if (is_woken past d)) refl step
  where
    step : (e : Entry) (past : List Entry) → IsLegalPast def past → IsDue def e past
        → StaysBelow (is_thread_begin d) (wakes d) (λ past. one_if (is_woken past d)) e past
    step e past legal due = woken_marks (is_thread_begin d e) (wakes d e) (is_woken past d) (λ h. (begin_tells def d e past due h).0)

pub returns_of : (def : LineDef) (d : DevNo) (past : List Entry) → IsLegalPast def past
    → count_of (is_thread_return d) past + one_if (awaits_return d past) ≤ count_of (is_thread_begin d) past
returns_of def d = runs_below def (is_thread_return d) (is_thread_begin d) (λ past. one_if (awaits_return d past)) refl step
  where
    step : (e : Entry) (past : List Entry) → IsLegalPast def past → IsDue def e past
        → StaysBelow (is_thread_return d) (is_thread_begin d) (λ past. one_if (awaits_return d past)) e past
    step e past legal due =
        subst (λ (u : Bool). one_if (is_thread_return d e) + one_if (is_running (e ∷ past) d && not u) ≤ one_if
        (awaits_return d past) + one_if (is_thread_begin d e)) (sym (returned_since d e past))
        (returned_marks (is_thread_begin d e) (is_thread_return d e) (is_done d e) (is_running past d)
        (has_returned past d) (λ h. (begin_tells def d e past due h).1) (return_tells def d e past due))

pub finishes_of : (def : LineDef) (d : DevNo) (past : List Entry) → IsLegalPast def past
    → count_of (is_finish d) past + one_if (awaits_finish d past) ≤ count_of (is_thread_begin d) past
finishes_of def d = runs_below def (is_finish d) (is_thread_begin d) (λ past. one_if (awaits_finish d past)) refl step
  where
    step : (e : Entry) (past : List Entry) → IsLegalPast def past → IsDue def e past
        → StaysBelow (is_finish d) (is_thread_begin d) (λ past. one_if (awaits_finish d past)) e past
    step e past legal due =
        let m = finished_marks (is_thread_begin d e) (is_thread_return d e) (is_finish d e) (is_done d e)
        (is_running past d) (has_returned past d) (has_finished past d)
        (λ h. (begin_tells def d e past due h).1) (return_tells def d e past due) (finish_tells def d e past due) in
        subst (λ (u : Bool). one_if (is_finish d e) + one_if
        (is_running (e ∷ past) d && not (u && has_finished (e ∷ past) d)) ≤ one_if (awaits_finish d past) + one_if
        (is_thread_begin d e)) (sym (returned_since d e past))
        (subst (λ (g : Bool). one_if (is_finish d e) + one_if
        (is_running (e ∷ past) d && not (cond (is_thread_begin d e) false
        (is_thread_return d e || has_returned past d) && g)) ≤ one_if (awaits_finish d past) + one_if
        (is_thread_begin d e)) (sym (finished_since d e past)) m)

pub dones_of : (def : LineDef) (d : DevNo) (past : List Entry) → IsLegalPast def past
    → count_of (is_done d) past + one_if (is_running past d) ≤ count_of (is_thread_begin d) past
dones_of def d = runs_below def (is_done d) (is_thread_begin d) (λ past. one_if (is_running past d)) refl step
  where
    step : (e : Entry) (past : List Entry) → IsLegalPast def past → IsDue def e past
        → StaysBelow (is_done d) (is_thread_begin d) (λ past. one_if (is_running past d)) e past
    step e past legal due = done_marks (is_thread_begin d e) (is_done d e) (is_running past d)
        (λ h. (begin_tells def d e past due h).1) (done_tells def d e past due)

-- ---- the counts of all devices

-- the number of the device that an entry names
abbrev pub call_key : CallEntry → ℕ
call_key (called.Wake woken dev) = dev.0
call_key (called.Arm makes dev) = dev.0
call_key (called.Serve dev served) = dev.0
call_key _ = 0

abbrev pub dev_key : Entry → ℕ
dev_key (by.CpuCall cpu call) = call_key call
dev_key (by.ThreadCall dev call) = call_key call
dev_key (by.DriverCall driver call) = call_key call
dev_key (by.Driver driver (drivers.Ask makes dev)) = dev.0
dev_key (by.Cpu cpu (cpus.Begin dev)) = dev.0
dev_key (by.Cpu cpu (cpus.Return answer dev served)) = dev.0
dev_key (by.Thread dev threads.Begin) = dev.0
dev_key (by.Thread dev (threads.Return handled served)) = dev.0
dev_key (by.Thread dev (threads.Finish kept unmask)) = dev.0
dev_key (by.Thread dev threads.Done) = dev.0
dev_key _ = 0
