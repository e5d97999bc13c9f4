-- The step of a call by the table of steps is the step by the state, whoever makes it.
use Rattle.std.proofs.Common.{◌≡◌, ℕ, ◌+◌, ◌≤◌, ◌==◌, min, Bool, true, false, not, ◌||◌, ◌&&◌, cond, is_some, nat_lt, Option, Some, None}
use Rattle.std.proofs.Common.{List, [], ◌∷◌, refl, sym, ap, subst, ◌∙◌, arith}
use Rattle.std.specs.List.{list_any}
use Rattle.irq_base.specs.Handlers.{has_thread}
use Rattle.irq_base.specs.declared.calls.Call.{Call}
use Rattle.irq_base.specs.declared.calls.Call.TheVariants as calls
use Rattle.irq_base.specs.declared.devices.DeviceDef.{DeviceDef}
use Rattle.irq_base.specs.declared.devices.Kind.{Kind}
use Rattle.irq_base.specs.declared.entries.EnableAnswer.{EnableAnswer}
use Rattle.irq_base.specs.declared.entries.EnableAnswer.TheVariants as enables
use Rattle.irq_base.specs.declared.entries.Entry.{Entry}
use Rattle.irq_base.specs.declared.entries.Entry.TheVariants as by
use Rattle.irq_base.specs.declared.entries.DriverEntry.TheVariants as drivers
use Rattle.irq_base.specs.declared.entries.CallEntry.{CallEntry}
use Rattle.irq_base.specs.declared.entries.CallEntry.TheVariants as called
use Rattle.irq_base.specs.declared.entries.Resend.{Resend}
use Rattle.irq_base.specs.declared.entries.UnlinkAnswer.{UnlinkAnswer}
use Rattle.irq_base.specs.declared.entries.UnlinkAnswer.TheVariants as unlinks
use Rattle.irq_base.specs.declared.lines.LineDef.{LineDef}
use Rattle.irq_base.specs.declared.numbers.DevNo.{DevNo}
use Rattle.irq_base.specs.declared.numbers.DriverNo.{DriverNo}
use Rattle.irq_laws.proofs.ImpliesDriver.{ask_due}
use Rattle.irq_laws.proofs.KeptAlways.{kept}
use Rattle.irq_laws.proofs.Requested.{due_passes}
use Rattle.irq_laws.proofs.RestKept.{there_named}
use Rattle.irq_laws.specs.Driven.{cell_after}
use Rattle.irq_laws.specs.Kept.{freeing}
use Rattle.irq_model.specs.Asks.{is_quiet, unserved_asks, left_by_runs, serving}
use Rattle.irq_model.specs.Due.{due_call, entries_by}
use Rattle.irq_model.specs.Kinds.{same_dev, is_ask, is_serve}
use Rattle.irq_model.specs.Legal.{IsLegalPast}
use Rattle.irq_model.specs.Lines.{is_device, is_edge_line, kind_of, is_held, does_forget}
use Rattle.irq_model.specs.Links.{linked, is_linked, is_none_linked, depth, linking_flags}
use Rattle.irq_model.specs.Next.{next_of_free, unlink_answer, is_only, resend_of, enable_answer, freed_of, next_step}
use Rattle.irq_model.specs.Next.{synced_of, hard_clear_of, next_of_disable, next_of_disable_hard, next_of_sync, wake_answer, ask_makes_edge, arm_makes_edge}
use Rattle.irq_model.specs.Places.{since, count_of}
use Rattle.irq_model.specs.Reason.{is_being_freed}
use Rattle.irq_model.specs.Threads.{is_woken, is_running}
use Rattle.irq_model.specs.Valid.{IsValid, names_one_of}
use Rattle.irq_model.specs.Waiting.{is_pending}
use Rattle.irq_model.proofs.Same.{dev_from_same}
use Rattle.device_table.proofs.Tables.{at_device, at_none}
use Rattle.device_table.specs.Rows.{at, table_by}
use Rattle.device_table.specs.Sums.{one_if}
use Rattle.act_list.specs.Actions.{is_bare, has}
use Rattle.act_list.specs.Lists.{unlink_by}
use Rattle.act_thread.specs.Steps.{is_in_run, is_idle_row}
use Rattle.act_thread.specs.Threads.{active_in, is_idle_at, row_passes}
use Rattle.act_thread.specs.declared.rows.ThreadRow.{ThreadRow}
use Rattle.ask_counts.specs.Facts.{all_facts, facts_at}
use Rattle.ask_counts.specs.Rows.{unserved_in, unserved_at, is_quiet_in, is_quiet_at}
use Rattle.ask_counts.specs.declared.facts.DeviceFacts.{DeviceFacts}
use Rattle.desc_state.specs.Desc.{resend_by, enable_by}
use Rattle.line_marks.proofs.FreeingFollows.{mutex_is}
use Rattle.line_marks.proofs.ActionsFollow.{actions_are, bare_is}
use Rattle.line_marks.proofs.CellFollows.{cell_is}
use Rattle.line_marks.proofs.FactsFixed.{facts_are, kind_is}
use Rattle.line_marks.proofs.Known.{linked_known, no_thread, in_run}
use Rattle.line_marks.proofs.Listed.{only_of}
use Rattle.line_marks.specs.Actions.{actions_of}
use Rattle.line_marks.specs.Asks.{ask_row}
use Rattle.line_marks.specs.Calls.{synced_by, freed_by, free_by, disable_by, disable_hard_by, sync_by, wake_by, ask_edge_by, arm_edge_by, step_by}
use Rattle.line_marks.specs.Desc.{desc_of}
use Rattle.line_marks.specs.Facts.{kind_at}
use Rattle.line_marks.specs.State.{state_of}
use Rattle.line_marks.specs.Threads.{thread_of, threads_of, stage_by, has_returned, has_finished}

-- ---- asks are of devices of the line

pub asked_named : (def : LineDef) (r : DriverNo) (x : DevNo) (n : ℕ) (past : List Entry) → IsValid def
    → due_call def r past ≡ Some (calls.Ask x, n) → list_any (is_device x) def.devices ≡ true
asked_named def r x n past valid call =
    due_passes (names_one_of def.devices) r def.calls (entries_by r past) (calls.Ask x) n valid.calls call

contrary : {P : Type 0} (b : Bool) → b ≡ true → b ≡ false → P
contrary b h i = cc

none_asked : (def : LineDef) (past : List Entry) (d : DevNo) → IsValid def → IsLegalPast def past
    → list_any (is_device d) def.devices ≡ false → count_of (is_ask d) past ≡ 0
none_asked def [] d valid legal gone = refl
none_asked def (by.Driver r (drivers.Ask edge x) ∷ past) d valid legal gone = by_test (same_dev d x) refl (none_asked def past d valid legal.1 gone)
  where
    by_test : (b : Bool) → same_dev d x ≡ b → count_of (is_ask d) past ≡ 0 → cond b (count_of (is_ask d) past + 1) (count_of (is_ask d) past) ≡ 0
    by_test true is h =
        let u = ask_due def r x edge past legal.0 in
        contrary (list_any (is_device d) def.devices) (subst (λ (y : DevNo). list_any (is_device y) def.devices ≡ true)
        (sym (dev_from_same d x is)) (asked_named def r x u.count past valid u.call)) gone
    by_test false is h = h
none_asked def (e ∷ past) d valid legal gone = none_asked def past d valid legal.1 gone

fewer_since : (p q : Entry → Bool) (past : List Entry) → count_of p (since q past) ≤ count_of p past
fewer_since p q [] = omega arith
fewer_since p q (e ∷ past) = by_tests (q e) (p e) (fewer_since p q past)
  where
    by_tests : (b a : Bool) → count_of p (since q past) ≤ count_of p past
        → count_of p (cond b [] (e ∷ since q past)) ≤ cond (p e) (count_of p past + 1) (count_of p past)
    by_tests true a h = omega arith
    by_tests false a h = both (p e) h
      where
        both : (c : Bool) → count_of p (since q past) ≤ count_of p past
            → cond c (count_of p (since q past) + 1) (count_of p (since q past)) ≤ cond c (count_of p past + 1) (count_of p past)
        both true h = omega (arith, h)
        both false h = h

none_unserved : (def : LineDef) (past : List Entry) (d : DevNo) → IsValid def → IsLegalPast def past
    → list_any (is_device d) def.devices ≡ false → unserved_asks def d past ≡ 0
none_unserved def past d valid legal gone =
    let few = fewer_since (is_ask d) (is_serve d) past in
    let none = none_asked def past d valid legal gone in
    no_less (count_of (is_ask d) (since (is_serve d) past)) (left_by_runs (serving def d) d past) (omega (arith, few, none))
  where
    no_less : (a b : ℕ) → a ≡ 0 → min a b ≡ 0
    no_less a b h = omega (arith, h)

resend_so : (e k : Bool) (p : Bool) (x y z : Resend) → cond (e && p) (cond (e && k) x y) z ≡ cond (e && p) (cond k x y) z
resend_so true k p x y z = refl
resend_so false k p x y z = refl

turned : (a b : Bool) (x y : EnableAnswer) → cond (b || not (not a)) x y ≡ cond (a || b) x y
turned true true x y = refl
turned true false x y = refl
turned false true x y = refl
turned false false x y = refl

neither : {A : Type 0} (w r : Bool) (x y : Option A) → cond (w || r) x y ≡ cond (not w && not r) y x
neither true r x y = refl
neither false true x y = refl
neither false false x y = refl

active_sum : (past : List Entry) (xs : List DeviceDef)
    → count_of (λ (x : DeviceDef). is_woken past x.dev) xs + count_of (λ (x : DeviceDef). is_running past x.dev) xs
    ≡ active_in (table_by (thread_of past) xs)
active_sum past [] = omega arith
active_sum past (x ∷ xs) = by_tests (is_woken past x.dev) (is_running past x.dev)
    (in_run (is_running past x.dev) (has_returned past x.dev) (has_finished past x.dev)) (active_sum past xs)
  where
    a : ℕ
    a = count_of (λ (y : DeviceDef). is_woken past y.dev) xs

    b : ℕ
    b = count_of (λ (y : DeviceDef). is_running past y.dev) xs

    n : ℕ
    n = active_in (table_by (thread_of past) xs)

    g : Bool
    g = is_in_run (stage_by (is_running past x.dev) (has_returned past x.dev) (has_finished past x.dev))

    by_tests : (w r : Bool) → g ≡ r → a + b ≡ n → cond w (a + 1) a + cond r (b + 1) b ≡ one_if w + one_if g + n
    by_tests true true h i = rw h (omega (arith, i))
    by_tests true false h i = rw h (omega (arith, i))
    by_tests false true h i = rw h (omega (arith, i))
    by_tests false false h i = rw h (omega (arith, i))

module _ (def : LineDef) (past : List Entry) (valid : IsValid def) (legal : IsLegalPast def past) where
  abbrev linked_by : Bool
  linked_by = not (is_bare (actions_of past))

  -- ---- a start

  pub resend_is : resend_by def.trigger (desc_of def past) (cell_after def past) ≡ resend_of def past
  resend_is =
      ap (resend_by def.trigger (desc_of def past)) (cell_is def past valid legal) ∙ resend_so (is_edge_line def) def.retriggers (is_pending def past) _ _ _

  pub enable_is : enable_by (not (is_bare (actions_of past))) def.trigger (desc_of def past) (cell_after def past) ≡ enable_answer def past
  enable_is =
      ap (λ b. enable_by (not b) def.trigger (desc_of def past) (cell_after def past)) (bare_is def past valid legal)
      ∙ (turned (is_none_linked past) (depth past == 0) enables.Unbalanced
      (cond (depth past == 1) (enables.Started (resend_by def.trigger (desc_of def past) (cell_after def past)))
      enables.Lowered)
      ∙ ap (λ (x : Resend). cond (is_none_linked past || (depth past == 0)) enables.Unbalanced
      (cond (depth past == 1) (enables.Started x) enables.Lowered)) resend_is)

  -- ---- a free

  pub unlink_is : (d : DevNo) → unlink_answer d past ≡ unlink_by d (actions_of past)
  unlink_is d =
      ap (λ b. cond b (unlinks.Unlinked (is_only d (linked past))) unlinks.NotThere) (linked_known def past d valid legal)
      ∙ ap (λ b. cond (has d (actions_of past)) (unlinks.Unlinked b) unlinks.NotThere)
      (sym (only_of (linking_flags past) d (actions_of past) (linked past) (actions_are def past valid legal)))

  pub idle_is : (d : DevNo) → is_idle_at (threads_of def past) d ≡ (not (is_woken past d) && not (is_running past d))
  idle_is d = by_test (list_any (is_device d) def.devices) refl
    where
      by_test : (b : Bool) → list_any (is_device d) def.devices ≡ b → is_idle_at (threads_of def past) d ≡ (not (is_woken past d) && not (is_running past d))
      by_test true there =
          ap (row_passes is_idle_row true) (at_device (thread_of past) def.devices d there)
          ∙ ap (λ b. not (is_woken past d) && not b) (in_run (is_running past d) (has_returned past d) (has_finished past d))
      by_test false gone =
          let rest = no_thread def past d (kept def past valid legal) gone in
          ap (row_passes is_idle_row true) (at_none (thread_of past) def.devices d gone) ∙ rw (rest.0, rest.1) refl

  freed_is : (d : DevNo) → freed_of d past ≡ freed_by d (state_of def past)
  freed_is d = neither (is_woken past d) (is_running past d) None (Some (called.Freed d))
      ∙ ap (λ b. cond b (Some (called.Freed d)) None) (sym (idle_is d))

  synced_is : synced_of def past ≡ synced_by (state_of def past)
  synced_is = ap (λ n. cond (n == 0) (Some called.Synced) None) (active_sum past def.devices)

  free_is : (d : DevNo) (n : ℕ) → next_of_free def d n past ≡ free_by d n (state_of def past)
  free_is d n =
      ap (λ b. cond (n == 0) (cond b None (Some (called.Unlink (unlink_answer d past) d)))
      (cond (n == 1) (hard_clear_of def past) (freed_of d past))) (mutex_is def past valid legal)
      ∙ (ap (λ (a : UnlinkAnswer). cond (n == 0) (cond (is_some (freeing past)) None (Some (called.Unlink a d)))
      (cond (n == 1) (hard_clear_of def past) (freed_of d past))) (unlink_is d)
      ∙ ap (λ (o : Option CallEntry). cond (n == 0) (cond (is_some (freeing past)) None
      (Some (called.Unlink (unlink_by d (actions_of past)) d))) (cond (n == 1) (hard_clear_of def past) o))
      (freed_is d))

  disable_is : (n : ℕ) → next_of_disable def n past ≡ disable_by n (state_of def past)
  disable_is n = ap (λ (o : Option CallEntry). cond (n == 0) (Some called.Disable) (cond (n == 1) (hard_clear_of def past) o)) synced_is

  sync_is : (n : ℕ) → next_of_sync def n past ≡ sync_by n (state_of def past)
  sync_is n = ap (λ (o : Option CallEntry). cond (n == 0) (hard_clear_of def past) o) synced_is

  disable_hard_is : (n : ℕ) → next_of_disable_hard def n past ≡ disable_hard_by n (state_of def past)
  disable_hard_is n = refl

  -- ---- a device's asks, and its own interrupt

  pub unserved_is : (d : DevNo) → unserved_at (state_of def past).asks d ≡ unserved_asks def d past
  unserved_is d = by_test (list_any (is_device d) def.devices) refl
    where
      by_test : (b : Bool) → list_any (is_device d) def.devices ≡ b → unserved_at (state_of def past).asks d ≡ unserved_asks def d past
      by_test true there = ap unserved_in (at_device (ask_row def past) def.devices d there)
      by_test false gone = ap unserved_in (at_none (ask_row def past) def.devices d gone) ∙ sym (none_unserved def past d valid legal gone)

  pub quiet_is : (d : DevNo) → list_any (is_device d) def.devices ≡ true → is_quiet_at (state_of def past).asks d ≡ is_quiet past d
  quiet_is d there = ap is_quiet_in (at_device (ask_row def past) def.devices d there)

  pub ask_edge_is : (d : DevNo) → list_any (is_device d) def.devices ≡ true → ask_makes_edge def d past ≡ ask_edge_by def d (state_of def past)
  ask_edge_is d there =
      ap (λ b. not (is_edge_line def) || (not b && (not (is_held def d) || (unserved_asks def d past == 0)))) (sym (quiet_is d there))
      ∙ (ap (λ b. not (is_edge_line def) || (not (is_quiet_at (state_of def past).asks d) && (not b || (unserved_asks def d past == 0))))
      (sym (ap (λ (f : DeviceFacts). f.held) (facts_are def d)))
      ∙ ap (λ n. not (is_edge_line def) || (not (is_quiet_at (state_of def past).asks d)
      && (not (facts_at (all_facts def) d).held || (n == 0)))) (sym (unserved_is d)))

  none_there : (e q r x y : Bool) (n m : ℕ) → n ≡ 0 → m ≡ 0 → (e && (q && (nat_lt 0 n && x))) ≡ (e && (r && (nat_lt 0 m && y)))
  none_there e q r x y n m h i = rw (h, i) (none e q ∙ sym (none e r))
    where
      none : (e q : Bool) → (e && (q && false)) ≡ false
      none true true = refl
      none true false = refl
      none false q = refl

  pub arm_edge_is : (d : DevNo) → arm_makes_edge def d past ≡ arm_edge_by def d (state_of def past)
  arm_edge_is d = by_test (list_any (is_device d) def.devices) refl
    where
      by_test : (b : Bool) → list_any (is_device d) def.devices ≡ b → arm_makes_edge def d past ≡ arm_edge_by def d (state_of def past)
      by_test true there =
          ap (λ b. is_edge_line def && (b && (nat_lt 0 (unserved_asks def d past) && not (does_forget def d)))) (sym (quiet_is d there))
          ∙ (ap (λ b. is_edge_line def && (is_quiet_at (state_of def past).asks d && (nat_lt 0 (unserved_asks def d past) && not b)))
          (sym (ap (λ (f : DeviceFacts). f.forgets) (facts_are def d)))
          ∙ ap (λ n. is_edge_line def && (is_quiet_at (state_of def past).asks d && (nat_lt 0 n && not (facts_at (all_facts def) d).forgets)))
          (sym (unserved_is d)))
      by_test false gone =
          none_there (is_edge_line def) (is_quiet past d) (is_quiet_at (state_of def past).asks d) (not (does_forget def d))
          (not (facts_at (all_facts def) d).forgets) (unserved_asks def d past) (unserved_at (state_of def past).asks d)
          (none_unserved def past d valid legal gone) (unserved_is d ∙ none_unserved def past d valid legal gone)

  -- ---- a wake

  grouped : (a b c : Bool) → (a && (b && c)) ≡ ((a && b) && c)
  grouped true b c = refl
  grouped false b c = refl

  not_linked : (d : DevNo) → list_any (is_device d) def.devices ≡ false → is_linked past d ≡ false
  not_linked d gone = is_off (is_linked past d) (λ on. contrary (list_any (is_device d) def.devices)
      (there_named def past (kept def past valid legal) d (ap (λ b. b || is_being_freed past d) on)) gone)
    where
      is_off : (b : Bool) → (b ≡ true → ⊥) → b ≡ false
      is_off true h = absurd (h refl)
      is_off false h = refl

  pub wake_is : (d : DevNo) → wake_answer def d past ≡ wake_by d (state_of def past)
  wake_is d =
      ap (λ b. b && (has_thread (kind_of def d) && not (is_woken past d))) (linked_known def past d valid legal)
      ∙ (ap (λ (k : Kind). has d (actions_of past) && (has_thread k && not (is_woken past d))) (sym (kind_is def d))
      ∙ (grouped (has d (actions_of past)) (has_thread (kind_at (all_facts def) d)) (not (is_woken past d))
      ∙ by_test (list_any (is_device d) def.devices) refl))
    where
      may : Bool
      may = has d (actions_of past) && has_thread (kind_at (all_facts def) d)

      by_test : (b : Bool) → list_any (is_device d) def.devices ≡ b
          → ((has d (actions_of past) && has_thread (kind_at (all_facts def) d)) && not (is_woken past d)) ≡ wake_by d (state_of def past)
      by_test true there =
          ap (λ (o : Option ThreadRow). (has d (actions_of past) && has_thread (kind_at (all_facts def) d)) && row_passes (λ r. not r.woken) false o)
          (sym (at_device (thread_of past) def.devices d there))
      by_test false gone =
          let off : has d (actions_of past) ≡ false = sym (linked_known def past d valid legal) ∙ not_linked d gone in
          ap (λ b. (b && has_thread (kind_at (all_facts def) d)) && not (is_woken past d)) off
          ∙ sym (ap (λ b. (b && has_thread (kind_at (all_facts def) d)) && row_passes (λ r. not r.woken) false (at (threads_of def past) d)) off)

  -- ---- every call

  pub step_is : (due : Call × ℕ) → next_step def past due ≡ step_by def (state_of def past) due
  step_is (calls.Free d, n) = free_is d n
  step_is (calls.Disable, n) = disable_is n
  step_is (calls.DisableNosync, n) = refl
  step_is (calls.Enable, n) = ap (λ (a : EnableAnswer). Some (called.Enable a)) (sym enable_is)
  step_is (calls.Sync, n) = sync_is n
  step_is (calls.SyncHard, n) = refl
  step_is (calls.DisableHard, n) = disable_hard_is n
  step_is (calls.Wake d, n) = ap (λ b. Some (called.Wake b d)) (wake_is d)
  step_is (calls.Quiet d, n) = refl
  step_is (calls.Arm d, n) = ap (λ b. Some (called.Arm b d)) (arm_edge_is d)
  step_is (calls.Serve d, n) = ap (λ m. Some (called.Serve d m)) (sym (unserved_is d))
  step_is (calls.Ask d, n) = refl
  step_is (calls.Request d flags, n) = refl
  step_is (calls.Affinity mask, n) = refl
  step_is (calls.Moment at, n) = refl
