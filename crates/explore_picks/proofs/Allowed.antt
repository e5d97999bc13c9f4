-- The log of a board of an earlier version may have each row of a history of its lines.
use Rattle.std.proofs.Common.{◌≡◌, ℕ, ◌==◌, Bool, true, false, not, ◌||◌, ◌&&◌, cond, ltb, true≢false, Option, Some, None, List, [], ◌∷◌, refl, sym, ap, ◌∙◌}
use Rattle.std.specs.Prelude.{All}
use Rattle.std.specs.List.{list_any}
use Rattle.std.proofs.lemmas.List.Elements.{All-head, All-tail}
use Rattle.irq_base.specs.Handlers.{answer_of, serving_part}
use Rattle.irq_base.specs.declared.calls.Call.{Call}
use Rattle.irq_base.specs.declared.calls.Call.TheVariants as calls
use Rattle.irq_base.specs.declared.devices.Answer.TheVariants as answers
use Rattle.irq_base.specs.declared.devices.DeviceDef.{DeviceDef}
use Rattle.irq_base.specs.declared.devices.Kind.{Kind}
use Rattle.irq_base.specs.declared.devices.Kind.TheVariants as kinds
use Rattle.irq_base.specs.declared.devices.Part.{Part}
use Rattle.irq_base.specs.declared.devices.Part.TheVariants as parts
use Rattle.irq_base.specs.declared.devices.ToldAnswer.{ToldAnswer}
use Rattle.irq_base.specs.declared.entries.Actor.{Actor}
use Rattle.irq_base.specs.declared.entries.Actor.TheVariants as actors
use Rattle.irq_base.specs.declared.entries.CallEntry.{CallEntry}
use Rattle.irq_base.specs.declared.entries.CallEntry.TheVariants as called
use Rattle.irq_base.specs.declared.entries.DriverEntry.TheVariants as drivers
use Rattle.irq_base.specs.declared.entries.Entry.{Entry}
use Rattle.irq_base.specs.declared.entries.Entry.TheVariants as by
use Rattle.irq_base.specs.declared.entries.ThreadEntry.TheVariants as threads
use Rattle.irq_base.specs.declared.lines.LineDef.{LineDef}
use Rattle.irq_base.specs.declared.numbers.CpuNo.{CpuNo}
use Rattle.irq_base.specs.declared.numbers.DevNo.{DevNo}
use Rattle.irq_base.specs.declared.numbers.DriverNo.{DriverNo}
use Rattle.irq_model.specs.Asks.{begins_run, is_quiet, serves_itself, serving, taken_away, unless_by_script, unserved_asks}
use Rattle.irq_model.specs.Due.{due_of}
use Rattle.irq_model.specs.Kinds.{is_handled, is_serve, made_by, quiets, serves_this, turns_off, turns_on}
use Rattle.irq_model.specs.Legal.{IsDue, IsLegalPast}
use Rattle.irq_model.specs.Lines.{is_device, is_edge_line, is_held, kind_in, kind_of, run_script, script_in}
use Rattle.irq_model.specs.Next.{ask_makes_edge}
use Rattle.irq_model.specs.Places.{before, since}
use Rattle.irq_model.specs.Rounds.{at_work, flow, is_cpu}
use Rattle.irq_model.specs.RunLaws.{is_in_run}
use Rattle.irq_model.specs.Runs.{is_that_part, makes_calls, met_by, served_by_run, serves_by_word, told_of}
use Rattle.board_words.specs.Versions.{has_runs}
use Rattle.irq_laws.proofs.ImpliesCall.{Row, step_row, unlink, free_clear, freed, disable, disable_clear, disable_synced, nosync, enable, sync_clear, synced}
use Rattle.irq_laws.proofs.ImpliesCall.{hard, hard_disable, hard_disable_clear, wake, quiet, arm, serve}
use Rattle.irq_laws.proofs.ImpliesDriver.{ask_due, call_due}
use Rattle.irq_laws.proofs.ImpliesThread.{thread_return_due}
use Rattle.irq_laws.proofs.Requested.{due_passes}
use Rattle.irq_laws.specs.Actors.{calls_at_work, calls_of, entries_of}
use Rattle.log_read.specs.Versions.{has_some, is_new_call, may_have, needs_runs}
use Rattle.log_text.specs.Words.{handled_words}
use Rattle.board_stated.specs.OfVersion.{HasOldRows, has_old_row, is_told_kind}

-- ---- the step of an old call is an old one

never : (own q : Call × ℕ) → ◌≡◌ {A = Option (Call × ℕ)} (Some own) (Some q) → has_old_row own.0 ≡ true → has_old_row q.0 ≡ false → ⊥
never own q same old new =
    let e : own ≡ q = cc in
    true≢false (sym old ∙ (ap (λ (x : Call × ℕ). has_old_row x.0) e ∙ new))

old_step : {def : LineDef} {past : List Entry} (call : CallEntry) (own : Call × ℕ) → has_old_row own.0 ≡ true → Row def (Some own) past call
    → is_new_call call ≡ false
old_step call own old (unlink x a b same) = ap is_new_call (sym same)
old_step call own old (free_clear x a b same) = ap is_new_call (sym same)
old_step call own old (freed x n a b c e same) = ap is_new_call (sym same)
old_step call own old (disable a same) = ap is_new_call (sym same)
old_step call own old (disable_clear a b same) = ap is_new_call (sym same)
old_step call own old (disable_synced n a b c e same) = ap is_new_call (sym same)
old_step call own old (nosync n a same) = ap is_new_call (sym same)
old_step call own old (enable n a same) = ap is_new_call (sym same)
old_step call own old (sync_clear a b same) = ap is_new_call (sym same)
old_step call own old (synced n a b c same) = ap is_new_call (sym same)
old_step call own old (hard n a b same) = ap is_new_call (sym same)
old_step call own old (hard_disable a same) = ap is_new_call (sym same)
old_step call own old (hard_disable_clear n a b c same) = ap is_new_call (sym same)
old_step call own old (wake x n a same) = absurd (never own (calls.Wake x, n) a old refl)
old_step call own old (quiet x n a same) = absurd (never own (calls.Quiet x, n) a old refl)
old_step call own old (arm x n a same) = absurd (never own (calls.Arm x, n) a old refl)
old_step call own old (serve x n a same) = absurd (never own (calls.Serve x, n) a old refl)

none_of : (b : Bool) (cs : List Call) → cs ≡ [] → cond b cs [] ≡ []
none_of true cs h = h
none_of false cs h = refl

-- a call that isn't new turns nothing off, and serves nothing
old_quiets : (call : CallEntry) → is_new_call call ≡ false → (d : DevNo) → quiets d call ≡ false
old_quiets (called.Quiet x) old d = cc
old_quiets called.Disable old d = refl
old_quiets called.HardClear old d = refl
old_quiets called.Synced old d = refl
old_quiets (called.Enable answer) old d = refl
old_quiets (called.Unlink answer x) old d = refl
old_quiets (called.Freed x) old d = refl
old_quiets (called.Wake woken x) old d = refl
old_quiets (called.Arm edge x) old d = refl
old_quiets (called.Serve x n) old d = refl

old_serves : (call : CallEntry) → is_new_call call ≡ false → (d : DevNo) → serves_this d call ≡ false
old_serves (called.Serve x n) old d = cc
old_serves called.Disable old d = refl
old_serves called.HardClear old d = refl
old_serves called.Synced old d = refl
old_serves (called.Enable answer) old d = refl
old_serves (called.Unlink answer x) old d = refl
old_serves (called.Freed x) old d = refl
old_serves (called.Wake woken x) old d = refl
old_serves (called.Arm edge x) old d = refl
old_serves (called.Quiet x) old d = refl

-- ---- what a thread's run answers, and what it serves

kind_old : (xs : List DeviceDef) (d : DevNo) → All (λ x. is_told_kind x.kind ≡ false) xs → is_told_kind (kind_in xs d) ≡ false
kind_old [] d each = refl
kind_old (x ∷ xs) d each = by_test (is_device d x) (kind_old xs d (All-tail (λ x. is_told_kind x.kind ≡ false) x xs each))
  where
    by_test : (b : Bool) → is_told_kind (kind_in xs d) ≡ false → is_told_kind (cond b x.kind (kind_in xs d)) ≡ false
    by_test true rest = All-head (λ x. is_told_kind x.kind ≡ false) x xs each
    by_test false rest = rest

none_held : (xs : List DeviceDef) (d : DevNo) → All (λ x. x.held ≡ false) xs → list_any (λ x. is_device d x && x.held) xs ≡ false
none_held [] d each = refl
none_held (x ∷ xs) d each =
    ap (λ b. (is_device d x && b) || list_any (λ x. is_device d x && x.held) xs) (All-head (λ x. x.held ≡ false) x xs each)
    ∙ (ap (λ b. b || list_any (λ x. is_device d x && x.held) xs) (no (is_device d x))
    ∙ none_held xs d (All-tail (λ x. x.held ≡ false) x xs each))
  where
    no : (b : Bool) → (b && false) ≡ false
    no true = refl
    no false = refl

-- it has handled exactly if it has served something: what it met
agrees : (k : Kind) (met : ℕ) (told : Option ToldAnswer) → is_told_kind k ≡ false
    → is_handled (answer_of k parts.Thread met told)
    ≡ ltb 0 (cond (is_that_part parts.Thread (serving_part k) && serves_by_word k told) met 0)
agrees kinds.Direct met told plain = refl
agrees kinds.Stuck met told plain = refl
agrees kinds.Odd met told plain = refl
agrees kinds.Check met told plain = by_met (ltb 0 met)
  where
    by_met : (b : Bool) → is_handled (cond b answers.Handled answers.Nothing) ≡ b
    by_met true = refl
    by_met false = refl
agrees kinds.Null met told plain = by_met (ltb 0 met)
  where
    by_met : (b : Bool) → is_handled (cond b answers.Handled answers.Nothing) ≡ b
    by_met true = refl
    by_met false = refl
agrees (kinds.Told threaded) met told plain = cc

no_word : (h : Bool) → has_some (handled_words h h) ≡ false
no_word true = refl
no_word false = refl

-- ---- all rows

module _ (def : LineDef) (old : HasOldRows def) where
  no_script : (d : DevNo) (part : Part) → run_script def d part ≡ []
  no_script d part = ap (λ (xs : List (DevNo × Part × Call)). script_in xs d part) old.runs

  at_work_none : (o : Option DevNo) (past : List Entry) → calls_at_work def o past ≡ []
  at_work_none None past = refl
  at_work_none (Some d) past = none_of (makes_calls def parts.Primary d past) (run_script def d parts.Primary) (no_script d parts.Primary)

  no_run_call : (a : Actor) (call : CallEntry) (past : List Entry) → calls_of def a past ≡ [] → IsDue def (made_by a call) past → ⊥
  no_run_call a call past none due =
      let u = call_due def a call past due in
      let n : ◌≡◌ {A = Option (Call × ℕ)} None (Some u.due) = sym (ap (λ (cs : List Call). due_of cs (entries_of def a past)) none) ∙ u.is_due in
      let x : ⊥ = cc n in x

  no_cpu_call : (c : CpuNo) (call : CallEntry) (past : List Entry) → IsDue def (by.CpuCall c call) past → ⊥
  no_cpu_call c call past due = no_run_call (actors.Cpu c) call past
      (none_of (is_cpu c (flow def past)) (calls_at_work def (at_work past) past) (at_work_none (at_work past) past)) due

  no_thread_call : (d : DevNo) (call : CallEntry) (past : List Entry) → IsDue def (by.ThreadCall d call) past → ⊥
  no_thread_call d call past due = no_run_call (actors.Thread d) call past
      (none_of (is_in_run past d) (run_script def d parts.Thread) (no_script d parts.Thread)) due

  call_old : (r : DriverNo) (call : CallEntry) (past : List Entry) → IsDue def (by.DriverCall r call) past → is_new_call call ≡ false
  call_old r call past due =
      let u = call_due def (actors.Driver r) call past due in
      old_step call u.due (due_passes has_old_row r def.calls (entries_of def (actors.Driver r) past) u.due.0 u.due.1 old.calls u.is_due)
      (step_row def (Some u.due) u.due.0 u.due.1 past call refl u.step)

  none_turns_off : (e : Entry) (past : List Entry) → IsDue def e past → (d : DevNo) → turns_off d e ≡ false
  none_turns_off (by.CpuCall cpu call) past due d = absurd (no_cpu_call cpu call past due)
  none_turns_off (by.ThreadCall dev call) past due d = absurd (no_thread_call dev call past due)
  none_turns_off (by.DriverCall driver call) past due d = old_quiets call (call_old driver call past due) d
  none_turns_off (by.Cpu cpu x) past due d = refl
  none_turns_off (by.Thread dev x) past due d = refl
  none_turns_off (by.Driver driver x) past due d = refl

  none_serves : (e : Entry) (past : List Entry) → IsDue def e past → (d : DevNo) → is_serve d e ≡ false
  none_serves (by.CpuCall cpu call) past due d = absurd (no_cpu_call cpu call past due)
  none_serves (by.ThreadCall dev call) past due d = absurd (no_thread_call dev call past due)
  none_serves (by.DriverCall driver call) past due d = old_serves call (call_old driver call past due) d
  none_serves (by.Cpu cpu x) past due d = refl
  none_serves (by.Thread dev x) past due d = refl
  none_serves (by.Driver driver x) past due d = refl

  never_quiet : (past : List Entry) → IsLegalPast def past → (d : DevNo) → is_quiet past d ≡ false
  never_quiet [] legal d = refl
  never_quiet (e ∷ past) legal d =
      ap (λ b. b || (not (turns_on d e) && is_quiet past d)) (none_turns_off e past legal.0 d)
      ∙ (ap (λ b. not (turns_on d e) && b) (never_quiet past legal.1 d) ∙ last (not (turns_on d e)))
    where
      last : (b : Bool) → (b && false) ≡ false
      last true = refl
      last false = refl

  never_served : (p : Entry → Bool) (past : List Entry) → IsLegalPast def past → (d : DevNo) → list_any (is_serve d) (since p past) ≡ false
  never_served p [] legal d = refl
  never_served p (e ∷ past) legal d = by_test (p e) (none_serves e past legal.0 d) (never_served p past legal.1 d)
    where
      by_test : (b : Bool) → is_serve d e ≡ false → list_any (is_serve d) (since p past) ≡ false
          → list_any (is_serve d) (cond b [] (e ∷ since p past)) ≡ false
      by_test true own rest = refl
      by_test false own rest = ap (λ x. x || list_any (is_serve d) (since p past)) own ∙ rest

  -- an ask makes its edge
  edge_made : (d : DevNo) (past : List Entry) → IsLegalPast def past → ask_makes_edge def d past ≡ true
  edge_made d past legal =
      ap (λ q. not (is_edge_line def) || (not q && (not (is_held def d) || (unserved_asks def d past == 0)))) (never_quiet past legal d)
      ∙ (ap (λ h. not (is_edge_line def) || (not h || (unserved_asks def d past == 0))) (none_held def.devices d old.held)
      ∙ always (is_edge_line def))
    where
      always : (b : Bool) → (not b || true) ≡ true
      always true = refl
      always false = refl

  serves_as_kind : (d : DevNo) → serving def d ≡ serving_part (kind_of def d)
  serves_as_kind d = by_part (serving_part (kind_of def d))
    where
      by_part : (o : Option Part) → unless_by_script def d o ≡ o
      by_part None = refl
      by_part (Some part) = ap (λ (cs : List Call). cond (list_any (serves_itself d) cs) None (Some part)) (no_script d part)

  taken_is : (d : DevNo) (past : List Entry) → IsLegalPast def past → taken_away def parts.Thread d past ≡ met_by def parts.Thread d past
  taken_is d past legal =
      ap (λ b. cond b 0 (unserved_asks def d (before (begins_run parts.Thread d) past))) (never_served (begins_run parts.Thread d) past legal d)

  served_is : (d : DevNo) (past : List Entry) → IsLegalPast def past → served_by_run def parts.Thread d past
      ≡ cond (is_that_part parts.Thread (serving_part (kind_of def d)) && serves_by_word (kind_of def d) (told_of def parts.Thread d past))
      (met_by def parts.Thread d past) 0
  served_is d past legal =
      ap (λ (o : Option Part). cond (is_that_part parts.Thread o && serves_by_word (kind_of def d) (told_of def parts.Thread d past))
      (taken_away def parts.Thread d past) 0) (serves_as_kind d)
      ∙ ap (λ n. cond (is_that_part parts.Thread (serving_part (kind_of def d)) && serves_by_word (kind_of def d) (told_of def parts.Thread d past)) n 0)
      (taken_is d past legal)

  returns_old : (d : DevNo) (handled : Bool) (served : ℕ) (past : List Entry) → IsLegalPast def past
      → IsDue def (by.Thread d (threads.Return handled served)) past → has_some (handled_words handled (ltb 0 served)) ≡ false
  returns_old d handled served past legal due =
      let u = thread_return_due def d handled served past due in
      let same : handled ≡ ltb 0 served =
      u.handled_is ∙ (agrees (kind_of def d) (met_by def parts.Thread d past) (told_of def parts.Thread d past) (kind_old def.devices d old.kinds)
      ∙ sym (ap (λ n. ltb 0 n) (u.served_is ∙ served_is d past legal))) in
      ap (λ b. has_some (handled_words b (ltb 0 served))) same ∙ no_word (ltb 0 served)

  pub row_old : (e : Entry) (past : List Entry) → IsLegalPast def past → IsDue def e past → needs_runs e ≡ false
  row_old (by.CpuCall cpu call) past legal due = absurd (no_cpu_call cpu call past due)
  row_old (by.ThreadCall dev call) past legal due = absurd (no_thread_call dev call past due)
  row_old (by.DriverCall driver call) past legal due = call_old driver call past due
  row_old (by.Driver driver (drivers.Ask edge dev)) past legal due =
      ap (λ b. needs_runs (by.Driver driver (drivers.Ask b dev))) ((ask_due def driver dev edge past due).edge_is ∙ edge_made dev past legal)
  row_old (by.Thread dev (threads.Return handled served)) past legal due = returns_old dev handled served past legal due
  row_old (by.Driver driver (drivers.Request flags answer opened dev)) past legal due = refl
  row_old (by.Driver driver (drivers.Affinity answer mask)) past legal due = refl
  row_old (by.Driver driver (drivers.Moment at)) past legal due = refl
  row_old (by.Thread dev threads.Begin) past legal due = refl
  row_old (by.Thread dev (threads.Finish kept unmask)) past legal due = refl
  row_old (by.Thread dev threads.Done) past legal due = refl
  row_old (by.Cpu cpu x) past legal due = refl

  pub may_have_row : (version : ℕ) (e : Entry) (past : List Entry) → IsLegalPast def past → IsDue def e past → may_have version e ≡ true
  may_have_row version e past legal due = ap (λ b. has_runs version || not b) (row_old e past legal due) ∙ last (has_runs version)
    where
      last : (b : Bool) → (b || true) ≡ true
      last true = refl
      last false = refl
