-- What a due call wants is what it waits for, and while that stands in the way its step isn't due.
use Rattle.std.proofs.Common.{◌==◌, ◌≡◌, ℕ, zero, suc, Bool, true, false, cond, option_map, Some, None, List, refl, ap, ap₂}
use Rattle.std.proofs.lemmas.Bool.{eqb-false}
use Rattle.irq_base.specs.declared.calls.Call.{Call}
use Rattle.irq_base.specs.declared.calls.Call.TheVariants as calls
use Rattle.irq_base.specs.declared.entries.Actor.TheVariants as actors
use Rattle.irq_base.specs.declared.entries.CallEntry.TheVariants as called
use Rattle.irq_base.specs.declared.entries.Entry.{Entry}
use Rattle.irq_base.specs.declared.lines.LineDef.{LineDef}
use Rattle.irq_base.specs.declared.numbers.DevNo.{DevNo}
use Rattle.irq_base.specs.declared.numbers.DriverNo.{DriverNo}
use Rattle.irq_base.specs.declared.waiting.WaitFor.TheVariants as waits
use Rattle.irq_laws.specs.Blocks.{block_of}
use Rattle.irq_model.specs.Due.{holds_mutex}
use Rattle.irq_model.specs.Kinds.{made_by}
use Rattle.irq_model.specs.Next.{next_step, next_of_driver, request_of, hard_clear_of, synced_of, freed_of, unlink_answer}
use Rattle.irq_model.specs.Waits.{flow_ends, threads_rest, thread_rests, mutex_free, nothing_wanted, wanted_by}

-- what the call wants and waits for, by one of five ways
pub data Waits (def : LineDef) (past : List Entry) (c : Call) (n : ℕ) : Type 0 where
  for_nothing : wanted_by (c, n) ≡ nothing_wanted → block_of c n ≡ waits.Nothing → Waits def past c n
  for_flow : wanted_by (c, n) ≡ flow_ends → block_of c n ≡ waits.Flow → Waits def past c n
  for_threads : wanted_by (c, n) ≡ threads_rest → block_of c n ≡ waits.Threads → next_step def past (c, n) ≡ synced_of def past → Waits def past c n
  for_mutex : wanted_by (c, n) ≡ mutex_free → block_of c n ≡ waits.Mutex → (holds_mutex past ≡ true → next_step def past (c, n) ≡ None) → Waits def past c n
  for_freed : (x : DevNo) (m : ℕ) → c ≡ calls.Free x → n ≡ suc m → wanted_by (c, n) ≡ thread_rests x → block_of c n ≡ waits.Freed
      → next_step def past (c, n) ≡ freed_of x past → Waits def past c n

some_before : (n : ℕ) → (n == 0) ≡ false → (m : ℕ) × (n ≡ suc m)
some_before zero h = absurd (eqb-false 0 0 h refl)
some_before (suc m) h = (m, refl)

module _ (def : LineDef) (past : List Entry) where
  free_waits : (d : DevNo) (n : ℕ) (z o : Bool) → (n == 0) ≡ z → (n == 1) ≡ o → Waits def past (calls.Free d) n
  free_waits d n true o iz io =
      for_mutex (ap (λ (b : Bool). cond b mutex_free (cond (n == 1) flow_ends (thread_rests d))) iz)
      (ap (λ (b : Bool). cond b waits.Mutex (cond (n == 1) waits.Flow waits.Freed)) iz)
      (λ held. ap₂ (λ (b e : Bool). cond b (cond e None (Some (called.Unlink (unlink_answer d past) d)))
      (cond (n == 1) (hard_clear_of def past) (freed_of d past))) iz held)
  free_waits d n false true iz io =
      for_flow (ap₂ (λ (b e : Bool). cond b mutex_free (cond e flow_ends (thread_rests d))) iz io)
      (ap₂ (λ (b e : Bool). cond b waits.Mutex (cond e waits.Flow waits.Freed)) iz io)
  free_waits d n false false iz io =
      let m = some_before n iz in
      for_freed d m.0 refl m.1 (ap₂ (λ (b e : Bool). cond b mutex_free (cond e flow_ends (thread_rests d))) iz io)
      (ap₂ (λ (b e : Bool). cond b waits.Mutex (cond e waits.Flow waits.Freed)) iz io)
      (ap₂ (λ (b e : Bool). cond b (cond (holds_mutex past) None (Some (called.Unlink (unlink_answer d past) d)))
      (cond e (hard_clear_of def past) (freed_of d past))) iz io)

  disable_waits : (n : ℕ) (z o : Bool) → (n == 0) ≡ z → (n == 1) ≡ o → Waits def past calls.Disable n
  disable_waits n true o iz io =
      for_nothing (ap (λ (b : Bool). cond b nothing_wanted (cond (n == 1) flow_ends threads_rest)) iz)
      (ap (λ (b : Bool). cond b waits.Nothing (cond (n == 1) waits.Flow waits.Threads)) iz)
  disable_waits n false true iz io =
      for_flow (ap₂ (λ (b e : Bool). cond b nothing_wanted (cond e flow_ends threads_rest)) iz io)
      (ap₂ (λ (b e : Bool). cond b waits.Nothing (cond e waits.Flow waits.Threads)) iz io)
  disable_waits n false false iz io =
      for_threads (ap₂ (λ (b e : Bool). cond b nothing_wanted (cond e flow_ends threads_rest)) iz io)
      (ap₂ (λ (b e : Bool). cond b waits.Nothing (cond e waits.Flow waits.Threads)) iz io)
      (ap₂ (λ (b e : Bool). cond b (Some called.Disable) (cond e (hard_clear_of def past) (synced_of def past))) iz io)

  sync_waits : (n : ℕ) (z : Bool) → (n == 0) ≡ z → Waits def past calls.Sync n
  sync_waits n true iz =
      for_flow (ap (λ (b : Bool). cond b flow_ends threads_rest) iz) (ap (λ (b : Bool). cond b waits.Flow waits.Threads) iz)
  sync_waits n false iz =
      for_threads (ap (λ (b : Bool). cond b flow_ends threads_rest) iz) (ap (λ (b : Bool). cond b waits.Flow waits.Threads) iz)
      (ap (λ (b : Bool). cond b (hard_clear_of def past) (synced_of def past)) iz)

  hard_waits : (n : ℕ) (z : Bool) → (n == 0) ≡ z → Waits def past calls.DisableHard n
  hard_waits n true iz =
      for_nothing (ap (λ (b : Bool). cond b nothing_wanted flow_ends) iz) (ap (λ (b : Bool). cond b waits.Nothing waits.Flow) iz)
  hard_waits n false iz =
      for_flow (ap (λ (b : Bool). cond b nothing_wanted flow_ends) iz) (ap (λ (b : Bool). cond b waits.Nothing waits.Flow) iz)

  pub call_waits : (c : Call) (n : ℕ) → Waits def past c n
  call_waits (calls.Ask d) n = for_nothing refl refl
  call_waits (calls.Request d flags) n = for_mutex refl refl (λ held. refl)
  call_waits (calls.Free d) n = free_waits d n (n == 0) (n == 1) refl refl
  call_waits calls.Disable n = disable_waits n (n == 0) (n == 1) refl refl
  call_waits calls.DisableNosync n = for_nothing refl refl
  call_waits calls.Enable n = for_nothing refl refl
  call_waits calls.Sync n = sync_waits n (n == 0) refl
  call_waits (calls.Affinity mask) n = for_nothing refl refl
  call_waits (calls.Moment at) n = for_nothing refl refl
  call_waits calls.SyncHard n = for_flow refl refl
  call_waits calls.DisableHard n = hard_waits n (n == 0) refl
  call_waits (calls.Wake d) n = for_nothing refl refl
  call_waits (calls.Quiet d) n = for_nothing refl refl
  call_waits (calls.Arm d) n = for_nothing refl refl
  call_waits (calls.Serve d) n = for_nothing refl refl

  -- the call's step isn't due, nor is a request
  pub record IsHeld (c : Call) (n : ℕ) : Type 0 where
    pub wants : wanted_by (c, n) ≡ nothing_wanted → ⊥
    pub mutex : wanted_by (c, n) ≡ mutex_free → holds_mutex past ≡ true
    pub step : next_step def past (c, n) ≡ None

  pub driver_held : (r : DriverNo) (c : Call) (n : ℕ) → IsHeld c n → next_of_driver def r past (Some (c, n)) ≡ None
  driver_held r (calls.Ask d) n h = absurd (h.wants refl)
  driver_held r (calls.Request d flags) n h = ap (λ (b : Bool). cond b None (Some (request_of def r d flags past))) (h.mutex refl)
  driver_held r (calls.Free d) n h = ap (option_map (made_by (actors.Driver r))) h.step
  driver_held r calls.Disable n h = ap (option_map (made_by (actors.Driver r))) h.step
  driver_held r calls.DisableNosync n h = absurd (h.wants refl)
  driver_held r calls.Enable n h = absurd (h.wants refl)
  driver_held r calls.Sync n h = ap (option_map (made_by (actors.Driver r))) h.step
  driver_held r (calls.Affinity mask) n h = absurd (h.wants refl)
  driver_held r (calls.Moment at) n h = absurd (h.wants refl)
  driver_held r calls.SyncHard n h = ap (option_map (made_by (actors.Driver r))) h.step
  driver_held r calls.DisableHard n h = ap (option_map (made_by (actors.Driver r))) h.step
  driver_held r (calls.Wake d) n h = absurd (h.wants refl)
  driver_held r (calls.Quiet d) n h = absurd (h.wants refl)
  driver_held r (calls.Arm d) n h = absurd (h.wants refl)
  driver_held r (calls.Serve d) n h = absurd (h.wants refl)
