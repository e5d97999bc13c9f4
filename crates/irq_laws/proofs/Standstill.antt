-- No standstill: where nobody has a step by whose entries a wait ends, whoever isn't done and has no step
-- waits for himself, or for one that does.
use Rattle.std.proofs.Common.{◌≡◌, ◌⊎◌, inl, inr, ℕ, zero, suc, ◌==◌, Bool, true, false, not, ◌||◌, ◌&&◌, cond, IsSome, Option, Some, None, is_some}
use Rattle.std.proofs.Common.{List, [], ◌∷◌, option_map, reverse, refl, sym, ap, ap₂, ◌∙◌, subst, arith, eqb-true}
use Rattle.std.specs.List.{list_any, AllByRecursion}
use Rattle.std.proofs.lemmas.Bool.{and_parts, and_from, and_right, or_cases, or_from, eqb-false, false_from_ne_true}
use Rattle.std.proofs.lemmas.List.Elements.{recursion_from_All}
use Rattle.irq_base.specs.declared.numbers.CpuNo.{CpuNo}
use Rattle.irq_base.specs.declared.numbers.DevNo.{DevNo}
use Rattle.irq_base.specs.declared.numbers.DriverNo.{DriverNo}
use Rattle.irq_base.specs.declared.calls.Call.{Call}
use Rattle.irq_base.specs.declared.calls.Call.TheVariants as calls
use Rattle.irq_base.specs.declared.devices.DeviceDef.{DeviceDef}
use Rattle.irq_base.specs.declared.devices.Kind.{Kind}
use Rattle.irq_base.specs.declared.devices.Part.{Part}
use Rattle.irq_base.specs.declared.devices.Part.TheVariants as parts
use Rattle.irq_base.specs.declared.lines.LineDef.{LineDef}
use Rattle.irq_base.specs.declared.entries.Actor.{Actor}
use Rattle.irq_base.specs.declared.entries.Actor.TheVariants as actors
use Rattle.irq_base.specs.declared.entries.Entry.{Entry}
use Rattle.irq_base.specs.declared.entries.Entry.TheVariants as by
use Rattle.irq_base.specs.declared.entries.CallEntry.{CallEntry}
use Rattle.irq_base.specs.declared.entries.CallEntry.TheVariants as called
use Rattle.irq_base.specs.declared.entries.UnlinkAnswer.TheVariants as unlinks
use Rattle.irq_base.specs.Who.{actor_of}
use Rattle.irq_model.specs.Places.{last_place}
use Rattle.irq_model.specs.Kinds.{same_dev, made_by, is_by, is_call, is_freed_by, ends_free}
use Rattle.irq_model.specs.Lines.{has_device, kind_of, run_script, script_in, same_part}
use Rattle.irq_model.specs.Links.{is_oneshot}
use Rattle.irq_model.specs.Rounds.{flow, has_flow, is_cpu, at_work}
use Rattle.irq_model.specs.Threads.{is_woken, is_running, active_count}
use Rattle.irq_model.specs.Due.{due_of, due_call, is_being_freed_at, holds_mutex}
use Rattle.irq_model.specs.Runs.{due_in_run, entries_of_run, makes_calls}
use Rattle.irq_model.specs.Next.{next, next_past, next_step, next_of_driver, next_of_thread, next_in_flow, next_take}
use Rattle.irq_model.specs.Next.{handler_or_return, call_or_return, hard_clear_of, synced_of, freed_of, unlink_answer}
use Rattle.irq_model.specs.Legal.{IsLegalPast}
use Rattle.irq_model.specs.Valid.{IsValid}
use Rattle.irq_model.specs.ValidRuns.{HasValidRuns, may_stand}
use Rattle.irq_model.specs.Waits.{Want, flow_ends, threads_rest, thread_rests, mutex_free, nothing_wanted, wanted_by, wanted_of}
use Rattle.irq_model.specs.Waits.{wanted_at_work, wanted, maker_of, mutex_holder, StandsIn, WaitsFor, IsHungPast}
use Rattle.irq_model.specs.Waits.{IsCaughtPast, NobodyEndsWaits, is_unfinished_actor, NoStandstillPast}
use Rattle.irq_model.proofs.Same.{same_self_cpu, dev_from_same, cpu_from_same, actor_from_same}
use Rattle.irq_laws.specs.Actors.{due_of_actor}
use Rattle.irq_laws.specs.Kept.{Kept, freeing, freed_on}
use Rattle.irq_laws.proofs.Chosen.{the_same}
use Rattle.irq_laws.proofs.Lists.{both_ways}
use Rattle.irq_laws.proofs.ActorSteps.{turn}
use Rattle.irq_laws.proofs.Progress.{Within, earlier, by_this, within}
use Rattle.irq_laws.proofs.Requested.{one_of}
use Rattle.irq_laws.proofs.Mutex.{unlinks_some, owned, one_later, same_place, holder}
use Rattle.irq_laws.proofs.BlockLaws.{none_counted}
use Rattle.irq_laws.proofs.FreesKept.{same_free}
use Rattle.irq_laws.proofs.RestKept.{woken_there, running_there, there_named}
use Rattle.irq_laws.proofs.KeptAlways.{kept}
use Rattle.irq_laws.proofs.ImpliesFlow.{has_a_flow, made_step}
use Rattle.irq_laws.proofs.ImpliesThread.{row, has_returned, has_finished}
use Rattle.irq_laws.proofs.ImpliesDriver.{acts_for, handler_works, thread_works, due_at_work, due_in_thread}
use Rattle.irq_laws.proofs.ScriptLaws.{runs_past}
use Rattle.irq_laws.proofs.WithinFree.{within_free}

-- ---- a step that isn't due

-- why the call's next step isn't due
pub data IsBlocked (def : LineDef) (past : List Entry) (c : Call) (n : ℕ) : Type 0 where
  by_flow : wanted_by (c, n) ≡ flow_ends → has_flow def past ≡ true → IsBlocked def past c n
  by_threads : wanted_by (c, n) ≡ threads_rest → (active_count def past == 0) ≡ false → IsBlocked def past c n
  by_thread : (d : DevNo) (m : ℕ) → wanted_by (c, n) ≡ thread_rests d → c ≡ calls.Free d → n ≡ suc m
      → (is_woken past d || is_running past d) ≡ true → IsBlocked def past c n
  by_mutex : wanted_by (c, n) ≡ mutex_free → holds_mutex past ≡ true → IsBlocked def past c n

unless_none : {A : Type 0} (b : Bool) (x : A) → cond b None (Some x) ≡ None → b ≡ true
unless_none true x h = refl
unless_none false x h = cc

when_none : {A : Type 0} (b : Bool) (x : A) → cond b (Some x) None ≡ None → b ≡ false
when_none true x h = cc
when_none false x h = refl

some_before : (n : ℕ) → (n == 0) ≡ false → (m : ℕ) × (n ≡ suc m)
some_before zero h = absurd (eqb-false 0 0 h refl)
some_before (suc m) h = (m, refl)

free_blocked : (def : LineDef) (past : List Entry) (d : DevNo) (n : ℕ) (z o : Bool) → (n == 0) ≡ z → (n == 1) ≡ o
    → next_step def past (calls.Free d, n) ≡ None → IsBlocked def past (calls.Free d) n
free_blocked def past d n true o iz io h =
    by_mutex (ap (λ (b : Bool). cond b mutex_free (cond (n == 1) flow_ends (thread_rests d))) iz)
    (unless_none (holds_mutex past) _ (ap (λ (b : Bool). cond b (cond (holds_mutex past) None (Some (called.Unlink (unlink_answer d past) d)))
    (cond (n == 1) (hard_clear_of def past) (freed_of d past))) (sym iz) ∙ h))
free_blocked def past d n false true iz io h =
    by_flow (ap₂ (λ (b e : Bool). cond b mutex_free (cond e flow_ends (thread_rests d))) iz io)
    (unless_none (has_flow def past) called.HardClear (ap₂
    (λ (b e : Bool). cond b (cond (holds_mutex past) None (Some (called.Unlink (unlink_answer d past) d)))
    (cond e (hard_clear_of def past) (freed_of d past))) (sym iz) (sym io) ∙ h))
free_blocked def past d n false false iz io h =
    let m = some_before n iz in
    by_thread d m.0 (ap₂ (λ (b e : Bool). cond b mutex_free (cond e flow_ends (thread_rests d))) iz io) refl m.1
    (unless_none (is_woken past d || is_running past d) (called.Freed d)
    (ap₂ (λ (b e : Bool). cond b (cond (holds_mutex past) None (Some (called.Unlink (unlink_answer d past) d)))
    (cond e (hard_clear_of def past) (freed_of d past))) (sym iz) (sym io) ∙ h))

disable_blocked : (def : LineDef) (past : List Entry) (n : ℕ) (z o : Bool) → (n == 0) ≡ z → (n == 1) ≡ o
    → next_step def past (calls.Disable, n) ≡ None → IsBlocked def past calls.Disable n
disable_blocked def past n true o iz io h =
    let x : Some called.Disable ≡ None = ap (λ (b : Bool). cond b (Some called.Disable)
    (cond (n == 1) (hard_clear_of def past) (synced_of def past))) (sym iz) ∙ h in cc
disable_blocked def past n false true iz io h =
    by_flow (ap₂ (λ (b e : Bool). cond b nothing_wanted (cond e flow_ends threads_rest)) iz io)
    (unless_none (has_flow def past) called.HardClear (ap₂ (λ (b e : Bool). cond b (Some called.Disable)
    (cond e (hard_clear_of def past) (synced_of def past))) (sym iz) (sym io) ∙ h))
disable_blocked def past n false false iz io h =
    by_threads (ap₂ (λ (b e : Bool). cond b nothing_wanted (cond e flow_ends threads_rest)) iz io)
    (when_none (active_count def past == 0) called.Synced (ap₂ (λ (b e : Bool). cond b (Some called.Disable)
    (cond e (hard_clear_of def past) (synced_of def past))) (sym iz) (sym io) ∙ h))

sync_blocked : (def : LineDef) (past : List Entry) (n : ℕ) (z : Bool) → (n == 0) ≡ z
    → next_step def past (calls.Sync, n) ≡ None → IsBlocked def past calls.Sync n
sync_blocked def past n true iz h =
    by_flow (ap (λ (b : Bool). cond b flow_ends threads_rest) iz)
    (unless_none (has_flow def past) called.HardClear (ap (λ (b : Bool). cond b (hard_clear_of def past) (synced_of def past)) (sym iz) ∙ h))
sync_blocked def past n false iz h =
    by_threads (ap (λ (b : Bool). cond b flow_ends threads_rest) iz)
    (when_none (active_count def past == 0) called.Synced (ap (λ (b : Bool). cond b (hard_clear_of def past) (synced_of def past)) (sym iz) ∙ h))

hard_blocked : (def : LineDef) (past : List Entry) (n : ℕ) (z : Bool) → (n == 0) ≡ z
    → next_step def past (calls.DisableHard, n) ≡ None → IsBlocked def past calls.DisableHard n
hard_blocked def past n true iz h =
    let x : Some called.Disable ≡ None = ap (λ (b : Bool). cond b (Some called.Disable) (hard_clear_of def past)) (sym iz) ∙ h in cc
hard_blocked def past n false iz h =
    by_flow (ap (λ (b : Bool). cond b nothing_wanted flow_ends) iz)
    (unless_none (has_flow def past) called.HardClear (ap (λ (b : Bool). cond b (Some called.Disable) (hard_clear_of def past)) (sym iz) ∙ h))

-- a call that isn't a driver's alone
abbrev pub is_shared : Call → Bool
is_shared (calls.Ask d) = false
is_shared (calls.Request d flags) = false
is_shared (calls.Affinity mask) = false
is_shared (calls.Moment at) = false
is_shared c = true

pub step_blocked : (def : LineDef) (past : List Entry) (c : Call) (n : ℕ) → is_shared c ≡ true → next_step def past (c, n) ≡ None → IsBlocked def past c n
step_blocked def past (calls.Free d) n is h = free_blocked def past d n (n == 0) (n == 1) refl refl h
step_blocked def past calls.Disable n is h = disable_blocked def past n (n == 0) (n == 1) refl refl h
step_blocked def past calls.Sync n is h = sync_blocked def past n (n == 0) refl h
step_blocked def past calls.SyncHard n is h = by_flow refl (unless_none (has_flow def past) called.HardClear h)
step_blocked def past calls.DisableHard n is h = hard_blocked def past n (n == 0) refl h
step_blocked def past (calls.Ask d) n is h = cc
step_blocked def past (calls.Request d flags) n is h = cc
step_blocked def past (calls.Affinity mask) n is h = cc
step_blocked def past (calls.Moment at) n is h = cc
step_blocked def past c n is h = cc

pub not_made : (a : Actor) (o : Option CallEntry) → option_map (made_by a) o ≡ None → o ≡ None
not_made a None h = refl
not_made a (Some call) h = cc

pub driver_blocked : (def : LineDef) (past : List Entry) (r : DriverNo) (c : Call) (n : ℕ) → next_of_driver def r past (Some (c, n)) ≡ None
    → IsBlocked def past c n
driver_blocked def past r (calls.Ask d) n h = cc
driver_blocked def past r (calls.Request d flags) n h = by_mutex refl (unless_none (holds_mutex past) _ h)
driver_blocked def past r (calls.Affinity mask) n h = cc
driver_blocked def past r (calls.Moment at) n h = cc
driver_blocked def past r (calls.Free d) n h = step_blocked def past (calls.Free d) n refl (not_made (actors.Driver r) _ h)
driver_blocked def past r calls.Disable n h = step_blocked def past calls.Disable n refl (not_made (actors.Driver r) _ h)
driver_blocked def past r calls.Sync n h = step_blocked def past calls.Sync n refl (not_made (actors.Driver r) _ h)
driver_blocked def past r calls.SyncHard n h = step_blocked def past calls.SyncHard n refl (not_made (actors.Driver r) _ h)
driver_blocked def past r calls.DisableHard n h = step_blocked def past calls.DisableHard n refl (not_made (actors.Driver r) _ h)
driver_blocked def past r c n h = cc

-- ---- the calls of a run are among those that may stand in it

part_from_same : (a b : Part) → same_part a b ≡ true → a ≡ b
part_from_same parts.Primary parts.Primary h = refl
part_from_same parts.Thread parts.Thread h = refl
part_from_same parts.Primary parts.Thread h = cc
part_from_same parts.Thread parts.Primary h = cc

script_stands : (def : LineDef) (runs : List (DevNo × Part × Call)) (d : DevNo) (part : Part)
    → AllByRecursion (λ c. may_stand (kind_of def c.0) c.1 c.0 c.2 ≡ true) runs
    → AllByRecursion (λ c. may_stand (kind_of def d) part d c ≡ true) (script_in runs d part)
script_stands def [] d part h = tt
script_stands def (c ∷ cs) d part h = by_test (same_dev d c.0 && same_part part c.1) refl (script_stands def cs d part h.1)
  where
    by_test : (b : Bool) → (same_dev d c.0 && same_part part c.1) ≡ b
        → AllByRecursion (λ x. may_stand (kind_of def d) part d x ≡ true) (script_in cs d part)
        → AllByRecursion (λ x. may_stand (kind_of def d) part d x ≡ true) (script_in (c ∷ cs) d part)
    by_test false is rest = rw is rest
    by_test true is rest =
        let p = and_parts (same_dev d c.0) (same_part part c.1) is in
        let dev : c.0 ≡ d = sym (dev_from_same d c.0 p.0) in
        let its : c.1 ≡ part = sym (part_from_same part c.1 p.1) in
        let here : may_stand (kind_of def d) part d c.2 ≡ true =
        subst (λ (x : Part). may_stand (kind_of def d) x d c.2 ≡ true) its (subst (λ (x : DevNo). may_stand (kind_of def x) c.1 x c.2 ≡ true) dev h.0) in
        rw is (here, rest)

pub run_stands : (def : LineDef) (past : List Entry) (part : Part) (d : DevNo) (c : Call) (n : ℕ) → HasValidRuns def
    → due_in_run def part d past ≡ Some (c, n) → may_stand (kind_of def d) part d c ≡ true
run_stands def past part d c n runs h = by_test (makes_calls def part d past) refl
  where
    all : AllByRecursion (λ x. may_stand (kind_of def d) part d x ≡ true) (run_script def d part)
    all = script_stands def def.runs d part (recursion_from_All (λ x. may_stand (kind_of def x.0) x.1 x.0 x.2 ≡ true) def.runs runs.stand)

    by_test : (b : Bool) → makes_calls def part d past ≡ b → may_stand (kind_of def d) part d c ≡ true
    by_test true is = one_of (may_stand (kind_of def d) part d) (run_script def d part) (entries_of_run part d past) c n all
        (ap (λ (b : Bool). cond b (due_of (run_script def d part) (entries_of_run part d past)) None) (sym is) ∙ h)
    by_test false is = let x = ap (λ (b : Bool). cond b (due_of (run_script def d part) (entries_of_run part d past)) None) (sym is) ∙ h in cc

-- what stands in a run is no driver's call alone
pub stands_shared : (kind : Kind) (part : Part) (d : DevNo) (c : Call) → may_stand kind part d c ≡ true → is_shared c ≡ true
stands_shared kind part d (calls.Ask x) h = cc
stands_shared kind part d (calls.Request x flags) h = cc
stands_shared kind part d (calls.Affinity mask) h = cc
stands_shared kind part d (calls.Moment at) h = cc
stands_shared kind part d c h = refl

-- ---- an actor that has no step

pub data Stuck (def : LineDef) (past : List Entry) (a : Actor) : Type 0 where
  on_flow : wanted def a past ≡ flow_ends → has_flow def past ≡ true → Stuck def past a
  on_threads : wanted def a past ≡ threads_rest → (active_count def past == 0) ≡ false → Stuck def past a
  on_thread : (d : DevNo) (m : ℕ) → wanted def a past ≡ thread_rests d → due_of_actor def a past ≡ Some (calls.Free d, suc m)
      → (is_woken past d || is_running past d) ≡ true → Stuck def past a
  on_mutex : wanted def a past ≡ mutex_free → holds_mutex past ≡ true → Stuck def past a

stuck : (def : LineDef) (past : List Entry) (a : Actor) (c : Call) (n : ℕ) → due_of_actor def a past ≡ Some (c, n)
    → wanted def a past ≡ wanted_by (c, n) → IsBlocked def past c n → Stuck def past a
stuck def past a c n is wants (by_flow w f) = on_flow (wants ∙ w) f
stuck def past a c n is wants (by_threads w t) = on_threads (wants ∙ w) t
stuck def past a c n is wants (by_thread d m w free one t) =
    on_thread d m (wants ∙ w) (is ∙ ap₂ (λ (x : Call) (k : ℕ). Some (x, k)) free one) t
stuck def past a c n is wants (by_mutex w h) = on_mutex (wants ∙ w) h

-- r: it runs, w: it is woken, t: its handler returned, h: a flow is in progress
pub row_none : (r w t o f h : Bool) (begins : Entry) (goes : Option Entry) (finishes ends : Entry) → row r w t o f h begins goes finishes ends ≡ None
    → ((r ≡ false) × (w ≡ false)) ⊎ (((r ≡ true) × (t ≡ false) × (goes ≡ None)) ⊎ ((r ≡ true) × (t ≡ true) × (h ≡ true)))
row_none false false t o f h a b c d is = inl (refl, refl)
row_none false true t o f h a b c d is = cc
row_none true w false o f h a b c d is = inr (inl (refl, refl, is))
row_none true w true true false true a b c d is = inr (inr (refl, refl, refl))
row_none true w true true false false a b c d is = cc
row_none true w true true true h a b c d is = cc
row_none true w true false f h a b c d is = cc

pub wants_in_run : (def : LineDef) (past : List Entry) (d : DevNo) → is_running past d ≡ true → has_returned past d ≡ false
    → wanted def (actors.Thread d) past ≡ wanted_of (due_in_run def parts.Thread d past)
wants_in_run def past d r t = ap₂ (λ (x y : Bool). cond (not x) nothing_wanted (cond y flow_ends (wanted_of (due_in_run def parts.Thread d past)))) r t

pub wants_flow : (def : LineDef) (past : List Entry) (d : DevNo) → is_running past d ≡ true → has_returned past d ≡ true
    → wanted def (actors.Thread d) past ≡ flow_ends
wants_flow def past d r t = ap₂ (λ (x y : Bool). cond (not x) nothing_wanted (cond y flow_ends (wanted_of (due_in_run def parts.Thread d past)))) r t

thread_in_run : (def : LineDef) (past : List Entry) (d : DevNo) → HasValidRuns def → is_running past d ≡ true → has_returned past d ≡ false
    → (o : Option (Call × ℕ)) → due_in_run def parts.Thread d past ≡ o → call_or_return def d past o ≡ None → Stuck def past (actors.Thread d)
thread_in_run def past d runs r t None is h = cc
thread_in_run def past d runs r t (Some (c, n)) is h =
    stuck def past (actors.Thread d) c n (due_in_thread def d past r t ∙ is) (wants_in_run def past d r t ∙ ap wanted_of is)
    (step_blocked def past c n (stands_shared (kind_of def d) parts.Thread d c (run_stands def past parts.Thread d c n runs is))
    (not_made (actors.Thread d) (next_step def past (c, n)) h))

pub thread_stuck : (def : LineDef) (past : List Entry) (d : DevNo) → HasValidRuns def → Kept def past
    → (is_woken past d || is_running past d) ≡ true → next_past def past (actors.Thread d) ≡ None → Stuck def past (actors.Thread d)
thread_stuck def past d runs k at_work still = by_row
    (row_none (is_running past d) (is_woken past d) (has_returned past d) (is_oneshot past) (has_finished past d) (has_flow def past) _ _ _ _ none)
  where
    there : has_device def d ≡ true
    there = by_case (or_cases (is_woken past d) (is_running past d) at_work)
      where
        by_case : (is_woken past d ≡ true) ⊎ (is_running past d ≡ true) → has_device def d ≡ true
        by_case (inl woken) = there_named def past k d (woken_there def past k d woken)
        by_case (inr running) = there_named def past k d (running_there def past k d running)

    none : next_of_thread def d past ≡ None
    none = ap (λ (b : Bool). cond b (next_of_thread def d past) None) (sym there) ∙ still

    by_row : ((is_running past d ≡ false) × (is_woken past d ≡ false)) ⊎ (((is_running past d ≡ true) × (has_returned past d ≡ false)
        × (call_or_return def d past (due_in_run def parts.Thread d past) ≡ None))
        ⊎ ((is_running past d ≡ true) × (has_returned past d ≡ true) × (has_flow def past ≡ true))) → Stuck def past (actors.Thread d)
    by_row (inl h) = both_ways (is_woken past d || is_running past d) at_work (or_from _ _ h.1 h.0)
    by_row (inr (inl h)) = thread_in_run def past d runs h.0 h.1 (due_in_run def parts.Thread d past) refl h.2
    by_row (inr (inr h)) = on_flow (wants_flow def past d h.0 h.1) h.2

pub driver_stuck : (def : LineDef) (past : List Entry) (r : DriverNo) (o : Option (Call × ℕ)) → due_call def r past ≡ o → is_some o ≡ true
    → next_past def past (actors.Driver r) ≡ None → Stuck def past (actors.Driver r)
driver_stuck def past r None is some still = cc
driver_stuck def past r (Some (c, n)) is some still =
    stuck def past (actors.Driver r) c n is (ap wanted_of is)
    (driver_blocked def past r c n (ap (λ (o : Option (Call × ℕ)). next_of_driver def r past o) (sym is) ∙ still))

-- a processor in a flow: its handler's due call, and that it isn't due
pub record HandlerStuck (def : LineDef) (past : List Entry) (c : CpuNo) : Type 0 where
  pub dev : DevNo
  pub call : Call
  pub count : ℕ
  pub is_due : due_of_actor def (actors.Cpu c) past ≡ Some (call, count)
  pub stands : may_stand (kind_of def dev) parts.Primary dev call ≡ true
  pub wants : wanted def (actors.Cpu c) past ≡ wanted_by (call, count)
  pub blocked : IsBlocked def past call count

handler_in_run : (def : LineDef) (past : List Entry) (c : CpuNo) (d : DevNo) → HasValidRuns def → is_cpu c (flow def past) ≡ true → at_work past ≡ Some d
    → (o : Option (Call × ℕ)) → due_in_run def parts.Primary d past ≡ o → handler_or_return def c d past o ≡ None → HandlerStuck def past c
handler_in_run def past c d runs f w None is h = cc
handler_in_run def past c d runs f w (Some (x, n)) is h =
    let may = run_stands def past parts.Primary d x n runs is in
    record {
      dev = d;
      call = x;
      count = n;
      is_due = due_at_work def c d past f w ∙ is;
      stands = may;
      wants = ap₂ (λ (b : Bool) (o : Option DevNo). cond b (wanted_at_work def o past) nothing_wanted) f w ∙ ap wanted_of is;
      blocked = step_blocked def past x n (stands_shared (kind_of def d) parts.Primary d x may) (not_made (actors.Cpu c) (next_step def past (x, n)) h);
    }

pub handler_stuck : (def : LineDef) (past : List Entry) (c : CpuNo) → HasValidRuns def → is_cpu c (flow def past) ≡ true
    → next_past def past (actors.Cpu c) ≡ None → HandlerStuck def past c
handler_stuck def past c runs f still = by_work (at_work past) refl
  where
    none : next_in_flow def c past (at_work past) ≡ None
    none = ap (λ (b : Bool). cond b (next_in_flow def c past (at_work past)) (next_take def c past)) (sym f) ∙ still

    by_work : (o : Option DevNo) → at_work past ≡ o → HandlerStuck def past c
    by_work None is =
        let n : next_in_flow def c past None ≡ None = ap (next_in_flow def c past) (sym is) ∙ none in cc
    by_work (Some d) is = handler_in_run def past c d runs f is (due_in_run def parts.Primary d past) refl (ap (next_in_flow def c past) (sym is) ∙ none)

-- ---- a handler is never past a hard clear

abbrev past_clear : Call → ℕ → Bool
past_clear calls.Disable n = not (n == 0) && not (n == 1)
past_clear calls.Sync n = not (n == 0)
past_clear c n = false

never_cleared : {P : Type 0} (def : LineDef) (past : List Entry) (c : CpuNo) (call : CallEntry) → is_cpu c (flow def past) ≡ true
    → hard_clear_of def past ≡ Some call → P
never_cleared def past c call f h =
    let n : ◌≡◌ {A = Option CallEntry} None (Some call)
    = ap (λ (b : Bool). cond b None (Some called.HardClear)) (sym (has_a_flow c (flow def past) f)) ∙ h in cc

still_unclear : (def : LineDef) (past : List Entry) (c : CpuNo) (x : Call) (m : ℕ) (call : CallEntry) → is_cpu c (flow def past) ≡ true
    → past_clear x m ≡ false → next_step def past (x, m) ≡ Some call → past_clear x (suc m) ≡ false
still_unclear def past c calls.Disable m call f was h = by_tests (m == 0) (m == 1) refl refl
  where
    by_tests : (z o : Bool) → (m == 0) ≡ z → (m == 1) ≡ o → past_clear calls.Disable (suc m) ≡ false
    by_tests true o iz io = subst (λ (k : ℕ). past_clear calls.Disable (suc k) ≡ false) (sym (eqb-true m 0 iz)) refl
    by_tests false true iz io = never_cleared def past c call f
        (ap₂ (λ (b e : Bool). cond b (Some called.Disable) (cond e (hard_clear_of def past) (synced_of def past))) (sym iz) (sym io) ∙ h)
    by_tests false false iz io = let n : true ≡ false = ap₂ (λ (b e : Bool). not b && not e) (sym iz) (sym io) ∙ was in cc
still_unclear def past c calls.Sync m call f was h = by_test (m == 0) refl
  where
    by_test : (z : Bool) → (m == 0) ≡ z → past_clear calls.Sync (suc m) ≡ false
    by_test true iz = never_cleared def past c call f (ap (λ (b : Bool). cond b (hard_clear_of def past) (synced_of def past)) (sym iz) ∙ h)
    by_test false iz = let n : true ≡ false = ap not (sym iz) ∙ was in cc
still_unclear def past c x m call f was h = refl

none_clear : (x : Call) → past_clear x zero ≡ false
none_clear calls.Disable = refl
none_clear calls.Sync = refl
none_clear x = refl

unclear : (def : LineDef) (past : List Entry) → IsLegalPast def past → (c : CpuNo) (x : Call) (n : ℕ)
    → due_of_actor def (actors.Cpu c) past ≡ Some (x, n) → past_clear x n ≡ false
unclear def [] legal c x n h = cc
unclear def (e ∷ past) legal c x zero h = none_clear x
unclear def (e ∷ past) legal c x (suc m) h = by_turn (within def (actors.Cpu c) e past x m
    (turn def (actors.Cpu c) e past legal.0 (runs_past def past legal.1)) h)
    (λ n is. unclear def past legal.1 c x n is)
  where
    by_turn : Within def (actors.Cpu c) e past x m → ((n : ℕ) → due_of_actor def (actors.Cpu c) past ≡ Some (x, n) → past_clear x n ≡ false)
        → past_clear x (suc m) ≡ false
    by_turn (earlier other before) deeper = deeper (suc m) before
    by_turn (by_this mine before more) deeper =
        let whose = actor_from_same (actors.Cpu c) (actor_of e) mine in
        let w = handler_works def c (x, m) past before in
        let s = made_step (actors.Cpu c) (next_step def past (x, m)) e
        (acts_for def (actors.Cpu c) (x, m) past e before (ap (next_past def past) whose ∙ legal.0)) in
        still_unclear def past c x m s.0 w.of_flow (deeper m before) s.1

-- ---- who holds the mutex

last_ext : {A : Type 0} (P Q : List A → List A → Bool) (past : List A) → ((a u : List A) → P a u ≡ Q a u) → last_place P past ≡ last_place Q past
last_ext P Q [] h = refl
last_ext P Q (e ∷ past) h =
    let here = h [] (e ∷ past) in
    let there = last_ext (λ a u. P (e ∷ a) u) (λ a u. Q (e ∷ a) u) past (λ a u. h (e ∷ a) u) in
    rw (here, there) refl

later_holder : (a : Actor) (f : Actor → Bool) (e : Entry) (past : List Entry) → is_call (unlinks_some (λ d. true)) e ≡ false → is_call ends_free e ≡ false
    → f a ≡ false → ((g : Actor → Bool) → g a ≡ false → maker_of (last_place (owned (λ d. true) g) past) ≡ Some a)
    → maker_of (last_place (owned (λ d. true) f) (e ∷ past)) ≡ Some a
later_holder a f e past no_unlink no_end free deeper =
    ap (λ (b : Bool). maker_of (cond b (e ∷ past) (last_place (λ x u. owned (λ d. true) f (e ∷ x) u) past)))
    (ap (λ (b : Bool). b && not (f (actor_of e) || list_any (is_freed_by (actor_of e)) [])) no_unlink)
    ∙ ap maker_of (last_ext (λ x u. owned (λ d. true) f (e ∷ x) u) (owned (λ d. true) (λ r. f r || is_freed_by r e))
    past (λ x u. one_later (λ d. true) f e x u))
    ∙ deeper (λ r. f r || is_freed_by r e) (or_from (f a) _ free (and_right (is_by a e) _ no_end))

this_holder : (a b : Actor) (d : DevNo) (x : DevNo) (f : Actor → Bool) (last : Bool) (past : List Entry)
    → ◌≡◌ {A = Option (Actor × DevNo)} (Some (b, x)) (Some (a, d))
    → f a ≡ false → (e : Entry) → actor_of e ≡ b → is_call (unlinks_some (λ d. true)) e ≡ true
    → maker_of (last_place (owned (λ d. true) f) (e ∷ past)) ≡ Some a
this_holder a b d x f last past is free e by unlinks =
    let p : Actor × DevNo = (b, x) in
    let q : Actor × DevNo = (a, d) in
    let same : b ≡ a = ap (λ (y : Actor × DevNo). y.0) (the_same p q is) in
    let here : f (actor_of e) ≡ false = ap f (by ∙ same) ∙ free in
    ap (λ (b : Bool). maker_of (cond b (e ∷ past) (last_place (λ x u. owned (λ d. true) f (e ∷ x) u) past)))
    (and_from _ _ unlinks (ap not (or_from (f (actor_of e)) false here refl)))
    ∙ ap Some (by ∙ same)

call_holder : (a b : Actor) (d : DevNo) (f : Actor → Bool) (call : CallEntry) (e : Entry) (past : List Entry) → freed_on b call (freeing past) ≡ Some (a, d)
    → actor_of e ≡ b → is_call (unlinks_some (λ d. true)) e ≡ unlinks_some (λ d. true) call → is_call ends_free e ≡ ends_free call → f a ≡ false
    → (freeing past ≡ Some (a, d) → (g : Actor → Bool) → g a ≡ false → maker_of (last_place (owned (λ d. true) g) past) ≡ Some a)
    → maker_of (last_place (owned (λ d. true) f) (e ∷ past)) ≡ Some a
call_holder a b d f (called.Unlink (unlinks.Unlinked last) x) e past is by unlinks_it ends_it free deeper
    = this_holder a b d x f last past is free e by unlinks_it
call_holder a b d f (called.Freed x) e past is by unlinks_it ends_it free deeper = cc
call_holder a b d f (called.Unlink unlinks.NotThere x) e past is by unlinks_it ends_it free deeper = later_holder a f e past unlinks_it ends_it free (deeper is)
call_holder a b d f call e past is by unlinks_it ends_it free deeper = later_holder a f e past unlinks_it ends_it free (deeper is)

holder_at : (a : Actor) (d : DevNo) (past : List Entry) → freeing past ≡ Some (a, d) → (f : Actor → Bool) → f a ≡ false
    → maker_of (last_place (owned (λ d. true) f) past) ≡ Some a
holder_at a d [] is f free = cc
holder_at a d (by.CpuCall c call ∷ past) is f free =
    call_holder a (actors.Cpu c) d f call (by.CpuCall c call) past is refl refl refl free (holder_at a d past)
holder_at a d (by.ThreadCall x call ∷ past) is f free =
    call_holder a (actors.Thread x) d f call (by.ThreadCall x call) past is refl refl refl free (holder_at a d past)
holder_at a d (by.DriverCall s call ∷ past) is f free =
    call_holder a (actors.Driver s) d f call (by.DriverCall s call) past is refl refl refl free (holder_at a d past)
holder_at a d (e ∷ past) is f free = later_holder a f e past refl refl free (holder_at a d past is)

-- the mutex is held by the maker of the free that is under way
pub holds_it : (a : Actor) (d : DevNo) (past : List Entry) → freeing past ≡ Some (a, d) → mutex_holder past ≡ Some a
holds_it a d past is =
    ap maker_of (last_ext is_being_freed_at (owned (λ d. true) (λ r. false)) past same_place) ∙ holder_at a d past is (λ r. false) refl

-- ---- what a call waits for

threads_past : (c : Call) (n : ℕ) → wanted_by (c, n) ≡ threads_rest → past_clear c n ≡ true
threads_past calls.Disable n h = by_tests (n == 0) (n == 1) h
  where
    by_tests : (z o : Bool) → cond z nothing_wanted (cond o flow_ends threads_rest) ≡ threads_rest → (not z && not o) ≡ true
    by_tests true o h = cc
    by_tests false true h = cc
    by_tests false false h = refl
threads_past calls.Sync n h = by_test (n == 0) h
  where
    by_test : (z : Bool) → cond z flow_ends threads_rest ≡ threads_rest → not z ≡ true
    by_test true h = cc
    by_test false h = refl
threads_past (calls.Free d) n h = by_tests (n == 0) (n == 1) h
  where
    by_tests : (z o : Bool) → cond z mutex_free (cond o flow_ends (thread_rests d)) ≡ threads_rest → false ≡ true
    by_tests true o h = cc
    by_tests false true h = cc
    by_tests false false h = cc
threads_past calls.DisableHard n h = by_test (n == 0) h
  where
    by_test : (z : Bool) → cond z nothing_wanted flow_ends ≡ threads_rest → false ≡ true
    by_test true h = cc
    by_test false h = cc
threads_past c n h = cc

pub mutex_not : (kind : Kind) (d : DevNo) (c : Call) (n : ℕ) → may_stand kind parts.Primary d c ≡ true → wanted_by (c, n) ≡ mutex_free → ⊥
mutex_not kind d calls.Disable n may h = by_tests (n == 0) (n == 1) h
  where
    by_tests : (z o : Bool) → cond z nothing_wanted (cond o flow_ends threads_rest) ≡ mutex_free → ⊥
    by_tests true o h = cc
    by_tests false true h = cc
    by_tests false false h = cc
mutex_not kind d calls.Sync n may h = by_test (n == 0) h
  where
    by_test : (z : Bool) → cond z flow_ends threads_rest ≡ mutex_free → ⊥
    by_test true h = cc
    by_test false h = cc
mutex_not kind d calls.DisableHard n may h = by_test (n == 0) h
  where
    by_test : (z : Bool) → cond z nothing_wanted flow_ends ≡ mutex_free → ⊥
    by_test true h = cc
    by_test false h = cc
mutex_not kind d (calls.Free x) n may h = cc
mutex_not kind d (calls.Request x flags) n may h = cc
mutex_not kind d c n may h = cc

pub free_wants : (x : DevNo) (n : ℕ) → (wanted_by (calls.Free x, suc n) ≡ threads_rest → ⊥) × (wanted_by (calls.Free x, suc n) ≡ mutex_free → ⊥)
free_wants x n = (λ h. threads (suc n == 0) (suc n == 1) h, λ h. mutex (suc n == 0) (suc n == 1) (not_zero n) h)
  where
    not_zero : (n : ℕ) → (suc n == 0) ≡ false
    not_zero n = false_from_ne_true (suc n == 0) (λ h. let z = eqb-true (suc n) 0 h in omega (arith, z))

    threads : (z o : Bool) → cond z mutex_free (cond o flow_ends (thread_rests x)) ≡ threads_rest → ⊥
    threads true o h = cc
    threads false true h = cc
    threads false false h = cc

    mutex : (z o : Bool) → z ≡ false → cond z mutex_free (cond o flow_ends (thread_rests x)) ≡ mutex_free → ⊥
    mutex true o i h = cc
    mutex false true i h = cc
    mutex false false i h = cc

-- ---- who waits for whom

pub some_cpu : (o : Option CpuNo) → is_some o ≡ true → (c : CpuNo) × (o ≡ Some c)
some_cpu None h = cc
some_cpu (Some c) h = (c, refl)

pub some_dev : (p : DevNo → Bool) (xs : List DeviceDef) → list_any (λ x. p x.dev) xs ≡ true → (d : DevNo) × (p d ≡ true)
some_dev p [] h = cc
some_dev p (x ∷ xs) h = by_case (or_cases (p x.dev) (list_any (λ y. p y.dev) xs) h) (some_dev p xs)
  where
    by_case : (p x.dev ≡ true) ⊎ (list_any (λ y. p y.dev) xs ≡ true)
        → (list_any (λ y. p y.dev) xs ≡ true → (d : DevNo) × (p d ≡ true)) → (d : DevNo) × (p d ≡ true)
    by_case (inl here) deeper = (x.dev, here)
    by_case (inr there) deeper = deeper there

pub some_active : (def : LineDef) (past : List Entry) → (active_count def past == 0) ≡ false → (d : DevNo) × ((is_woken past d || is_running past d) ≡ true)
some_active def past h =
    some_dev (λ d. is_woken past d || is_running past d) def.devices
    (when_not _ (sym (none_counted (λ (x : DeviceDef). is_woken past x.dev) (λ (x : DeviceDef). is_running past x.dev) def.devices) ∙ h))
  where
    when_not : (b : Bool) → not b ≡ false → b ≡ true
    when_not true h = refl
    when_not false h = cc

free_dev : (d x : DevNo) → calls.Free d ≡ calls.Free x → d ≡ x
free_dev d x h = cc

-- a handler that has no step waits for the end of the flow, which is its own
pub handler_wants_flow : (def : LineDef) (past : List Entry) → HasValidRuns def → IsLegalPast def past → (c : CpuNo) → is_cpu c (flow def past) ≡ true
    → next_past def past (actors.Cpu c) ≡ None → wanted def (actors.Cpu c) past ≡ flow_ends
handler_wants_flow def past runs legal c is still = by_block (handler_stuck def past c runs is still)
  where
    blocked : (s : HandlerStuck def past c) → IsBlocked def past s.call s.count → wanted def (actors.Cpu c) past ≡ flow_ends
    blocked s (by_flow w f) = s.wants ∙ w
    blocked s (by_threads w t) = both_ways (past_clear s.call s.count) (threads_past s.call s.count w) (unclear def past legal c s.call s.count s.is_due)
    blocked s (by_thread d m w free one t) =
        let n : false ≡ true = subst (λ (x : Call). may_stand (kind_of def s.dev) parts.Primary s.dev x ≡ true) free s.stands in cc
    blocked s (by_mutex w h) = absurd (mutex_not (kind_of def s.dev) s.dev s.call s.count s.stands w)

    by_block : HandlerStuck def past c → wanted def (actors.Cpu c) past ≡ flow_ends
    by_block s = blocked s s.blocked

pub flow_hung : (def : LineDef) (past : List Entry) → HasValidRuns def → IsLegalPast def past → (c : CpuNo) → flow def past ≡ Some c
    → next_past def past (actors.Cpu c) ≡ None → IsHungPast def past (actors.Cpu c)
flow_hung def past runs legal c is still = (
  0,
  (
    still,
    subst (λ (x : Want). StandsIn def past x (actors.Cpu c))
        (sym (handler_wants_flow def past runs legal c (ap (is_cpu c) is ∙ same_self_cpu c) still)) is,
  ),
)

-- whose the flow is
pub is_its_cpu : (c : CpuNo) (o : Option CpuNo) → is_cpu c o ≡ true → o ≡ Some c
is_its_cpu c None h = cc
is_its_cpu c (Some x) h = ap Some (sym (cpu_from_same c x h))

-- who waits for one that is hung or held up is held up
pub waits_for_caught : (def : LineDef) (past : List Entry) (a b : Actor) → WaitsFor def past a b → IsCaughtPast def past b → IsCaughtPast def past a
waits_for_caught def past a b w (inl hung) = inr (0, b, w, hung)
waits_for_caught def past a b w (inr (n, c, through, hung)) = inr (suc n, c, (b, w, through), hung)

module _ (def : LineDef) (past : List Entry) (valid : IsValid def) (runs : HasValidRuns def) (legal : IsLegalPast def past)
    (ends : NobodyEndsWaits def past) where
  abbrev Rests : Actor → Type 0
  Rests a = next_past def past a ≡ None

  abbrev Waits : Actor → Type 0
  Waits a = IsCaughtPast def past a

  waits : (a b : Actor) (w : Want) → Rests a → wanted def a past ≡ w → StandsIn def past w b → WaitsFor def past a b
  waits a b w rests is s = (rests, subst (λ (x : Want). StandsIn def past x b) (sym is) s)

  up : (a b : Actor) → WaitsFor def past a b → Waits b → Waits a
  up = waits_for_caught def past

  wants_flow_waits : (a : Actor) → Rests a → wanted def a past ≡ flow_ends → has_flow def past ≡ true → Waits a
  wants_flow_waits a rests w f =
      let c = some_cpu (flow def past) f in
      up a (actors.Cpu c.0) (waits a (actors.Cpu c.0) flow_ends rests w c.1)
      (inl (flow_hung def past runs legal c.0 c.1 (ends.flow_cpu c.0 c.1)))

  -- a thread waits for its own run
  thread_hung : (d : DevNo) → (is_woken past d || is_running past d) ≡ true → wanted def (actors.Thread d) past ≡ threads_rest → Waits (actors.Thread d)
  thread_hung d t w = inl (0, waits (actors.Thread d) (actors.Thread d) threads_rest (ends.threads d) w t)

  -- the maker of the free has no step
  maker_rests : (a : Actor) (x : DevNo) → freeing past ≡ Some (a, x) → Rests a
  maker_rests a x f = ends.holder a (holds_it a x past f)

  -- the maker of the free, if it waits for a thread
  waits_for_thread : (a : Actor) (x : DevNo) → freeing past ≡ Some (a, x) → WaitsFor def past a (actors.Thread x)
      → Stuck def past (actors.Thread x) → (is_woken past x || is_running past x) ≡ true → Waits a
  waits_for_thread a x f w (on_flow v g) t = up a (actors.Thread x) w (wants_flow_waits (actors.Thread x) (ends.threads x) v g)
  waits_for_thread a x f w (on_threads v n) t = up a (actors.Thread x) w (thread_hung x t v)
  waits_for_thread a x f w (on_thread y m v due u) t =
      let same = (same_free past a (actors.Thread x) x y f ((kept def past valid legal).frees.within (actors.Thread x) y m due)).0 in
      inl (0, subst (λ (b : Actor). WaitsFor def past a b) (sym same) w)
  waits_for_thread a x f w (on_mutex v h) t =
      inl (suc zero, (actors.Thread x, w, waits (actors.Thread x) a mutex_free (ends.threads x) v (holds_it a x past f)))

  maker_blocked : (a : Actor) (x : DevNo) (n : ℕ) → freeing past ≡ Some (a, x) → wanted def a past ≡ wanted_by (calls.Free x, suc n)
      → IsBlocked def past (calls.Free x) (suc n) → Waits a
  maker_blocked a x n f wants (by_flow w g) = wants_flow_waits a (maker_rests a x f) (wants ∙ w) g
  maker_blocked a x n f wants (by_threads w t) = absurd ((free_wants x n).0 w)
  maker_blocked a x n f wants (by_mutex w h) = absurd ((free_wants x n).1 w)
  maker_blocked a x n f wants (by_thread d m w free one t) =
      let same : d ≡ x = sym (free_dev x d free) in
      let at_work : (is_woken past x || is_running past x) ≡ true = subst (λ (y : DevNo). (is_woken past y || is_running past y) ≡ true) same t in
      waits_for_thread a x f
      (waits a (actors.Thread x) (thread_rests x) (maker_rests a x f) (wants ∙ w ∙ ap thread_rests same) (refl, at_work))
      (thread_stuck def past x runs (kept def past valid legal) at_work (ends.threads x)) at_work

  maker_waits : (a : Actor) (x : DevNo) → freeing past ≡ Some (a, x) → Waits a
  maker_waits (actors.Cpu c) x f =
      let n = within_free def past legal (actors.Cpu c) x f in
      let w = handler_works def c (calls.Free x, suc n.0) past n.1 in
      inl (flow_hung def past runs legal c (is_its_cpu c (flow def past) w.of_flow) (maker_rests (actors.Cpu c) x f))
  maker_waits (actors.Driver r) x f =
      let n = within_free def past legal (actors.Driver r) x f in
      maker_blocked (actors.Driver r) x n.0 f (ap wanted_of n.1)
      (driver_blocked def past r (calls.Free x) (suc n.0)
      (ap (λ (o : Option (Call × ℕ)). next_of_driver def r past o) (sym n.1) ∙ maker_rests (actors.Driver r) x f))
  maker_waits (actors.Thread d) x f =
      let n = within_free def past legal (actors.Thread d) x f in
      let w = thread_works def d (calls.Free x, suc n.0) past n.1 in
      maker_blocked (actors.Thread d) x n.0 f (wants_in_run def past d w.0 w.1 ∙ ap wanted_of w.2)
      (step_blocked def past (calls.Free x) (suc n.0) refl
      (not_made (actors.Thread d) (next_step def past (calls.Free x, suc n.0))
      (sym (ap (λ (o : Option (Call × ℕ)). call_or_return def d past o) w.2) ∙ sym (in_thread w.0 w.1) ∙ none w.0)))
    where
      none : is_running past d ≡ true → next_of_thread def d past ≡ None
      none running =
          let there = there_named def past (kept def past valid legal) d (running_there def past (kept def past valid legal) d running) in
          ap (λ (b : Bool). cond b (next_of_thread def d past) None) (sym there) ∙ ends.threads d

      in_thread : is_running past d ≡ true → has_returned past d ≡ false
          → next_of_thread def d past ≡ call_or_return def d past (due_in_run def parts.Thread d past)
      in_thread r t = rw (r, t) refl

  wants_mutex_waits : (a : Actor) → Rests a → wanted def a past ≡ mutex_free → holds_mutex past ≡ true → Waits a
  wants_mutex_waits a rests w held =
      let o = holder past held in
      let f = (kept def past valid legal).frees.one_maker o.maker o.dev o.stands_there in
      up a o.maker (waits a o.maker mutex_free rests w (holds_it o.maker o.dev past f)) (maker_waits o.maker o.dev f)

  within_waits : (a : Actor) (d : DevNo) (m : ℕ) → due_of_actor def a past ≡ Some (calls.Free d, suc m) → Waits a
  within_waits a d m due = maker_waits a d ((kept def past valid legal).frees.within a d m due)

  thread_waits : (d : DevNo) → (is_woken past d || is_running past d) ≡ true → Waits (actors.Thread d)
  thread_waits d t = by_stuck (thread_stuck def past d runs (kept def past valid legal) t (ends.threads d))
    where
      by_stuck : Stuck def past (actors.Thread d) → Waits (actors.Thread d)
      by_stuck (on_flow w f) = wants_flow_waits (actors.Thread d) (ends.threads d) w f
      by_stuck (on_threads w n) = thread_hung d t w
      by_stuck (on_thread x m w due u) = within_waits (actors.Thread d) x m due
      by_stuck (on_mutex w h) = wants_mutex_waits (actors.Thread d) (ends.threads d) w h

  driver_waits : (r : DriverNo) → is_some (due_call def r past) ≡ true → Rests (actors.Driver r) → Waits (actors.Driver r)
  driver_waits r some rests = by_stuck (driver_stuck def past r (due_call def r past) refl some rests)
    where
      by_stuck : Stuck def past (actors.Driver r) → Waits (actors.Driver r)
      by_stuck (on_flow w f) = wants_flow_waits (actors.Driver r) rests w f
      by_stuck (on_threads w n) =
          let d = some_active def past n in
          up (actors.Driver r) (actors.Thread d.0) (waits (actors.Driver r) (actors.Thread d.0) threads_rest rests w d.1) (thread_waits d.0 d.1)
      by_stuck (on_thread x m w due u) = within_waits (actors.Driver r) x m due
      by_stuck (on_mutex w h) = wants_mutex_waits (actors.Driver r) rests w h

  unfinished_waits : (a : Actor) → is_unfinished_actor def past a ≡ true → Rests a → Waits a
  unfinished_waits (actors.Driver r) h rests = driver_waits r h rests
  unfinished_waits (actors.Thread d) h rests = thread_waits d h
  unfinished_waits (actors.Cpu c) h rests = inl (flow_hung def past runs legal c (is_its_cpu c (flow def past) h) rests)

pub no_standstill : (def : LineDef) (past : List Entry) → IsValid def → HasValidRuns def → IsLegalPast def past → NoStandstillPast def past
no_standstill def past valid runs legal ends a h rests = unfinished_waits def past valid runs legal ends a h rests

-- ---- a handler whose step waits for nobody

no_want : (def : LineDef) (past : List Entry) (c : Call) (n : ℕ) → IsBlocked def past c n → wanted_by (c, n) ≡ nothing_wanted → ⊥
no_want def past c n (by_flow w f) h = let x = sym w ∙ h in cc
no_want def past c n (by_threads w t) h = let x = sym w ∙ h in cc
no_want def past c n (by_thread d m w free one t) h = let x = sym w ∙ h in cc
no_want def past c n (by_mutex w m) h = let x = sym w ∙ h in cc

pub flow_moves : (def : LineDef) (h : List Entry) (c : CpuNo) → HasValidRuns def → flow def (reverse h) ≡ Some c
    → wanted def (actors.Cpu c) (reverse h) ≡ nothing_wanted → IsSome (next def h (actors.Cpu c))
flow_moves def h c runs is wants = by_next (next def h (actors.Cpu c)) refl
  where
    by_next : (o : Option Entry) → next def h (actors.Cpu c) ≡ o → IsSome (next def h (actors.Cpu c))
    by_next (Some e) there = ap is_some there
    by_next None none =
        let s = handler_stuck def (reverse h) c runs (ap (is_cpu c) is ∙ same_self_cpu c) none in
        absurd (no_want def (reverse h) s.call s.count s.blocked (sym s.wants ∙ wants))
