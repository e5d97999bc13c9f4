-- A thread is hung exactly if its waits lead back to it.
use Rattle.std.proofs.Common.{◌==◌, ◌≡◌, ◌⊎◌, inl, inr, ℕ, zero, suc, Bool, true, false, not, ◌||◌}
use Rattle.std.proofs.Common.{◌&&◌, cond, is_some, Option, Some, None, List, [], ◌∷◌, refl}
use Rattle.std.proofs.Common.{sym, ap, subst, ◌∙◌}
use Rattle.std.proofs.lemmas.Bool.{both_ways, or_cases, or_right}
use Rattle.std.proofs.lemmas.Option.{same_Some, none-some}
use Rattle.std.specs.List.{list_any}
use Rattle.std.specs.Option.{option_map_or}
use Rattle.irq_base.specs.declared.calls.Call.{Call}
use Rattle.irq_base.specs.declared.calls.Call.TheVariants as calls
use Rattle.irq_base.specs.declared.devices.DeviceDef.{DeviceDef}
use Rattle.irq_base.specs.declared.entries.Actor.{Actor}
use Rattle.irq_base.specs.declared.entries.Actor.TheVariants as actors
use Rattle.irq_base.specs.declared.entries.CallEntry.TheVariants as called
use Rattle.irq_base.specs.declared.entries.Entry.{Entry}
use Rattle.irq_base.specs.declared.lines.LineDef.{LineDef}
use Rattle.irq_base.specs.declared.numbers.CpuNo.{CpuNo}
use Rattle.irq_base.specs.declared.numbers.DevNo.{DevNo}
use Rattle.irq_base.specs.declared.numbers.DriverNo.{DriverNo}
use Rattle.irq_base.specs.declared.waiting.WaitFor.{WaitFor}
use Rattle.irq_base.specs.declared.waiting.WaitFor.TheVariants as waits
use Rattle.irq_laws.specs.Actors.{due_of_actor}
use Rattle.irq_laws.specs.Blocks.{block_of}
use Rattle.irq_laws.specs.Kept.{freeing}
use Rattle.irq_laws.proofs.BlockLaws.{none_counted}
use Rattle.irq_laws.proofs.ImpliesDriver.{thread_works}
use Rattle.irq_laws.proofs.KeptAlways.{kept}
use Rattle.irq_laws.proofs.Lists.{any_imply}
use Rattle.irq_laws.proofs.Mutex.{freeing_holds}
use Rattle.irq_laws.proofs.Standstill.{holds_it}
use Rattle.irq_model.specs.Due.{calls_by, holds_mutex, is_being_freed_at}
use Rattle.irq_model.specs.Kinds.{same_dev}
use Rattle.irq_model.specs.Legal.{IsLegalPast}
use Rattle.irq_model.specs.Lines.{has_device, is_device}
use Rattle.irq_model.specs.Next.{next_past, next_step, synced_of, freed_of}
use Rattle.irq_model.specs.Places.{last_place, some_place}
use Rattle.irq_model.specs.Threads.{active_count, is_running, is_woken}
use Rattle.irq_model.specs.Valid.{IsValid}
use Rattle.irq_model.specs.ValidRuns.{HasValidRuns}
use Rattle.irq_model.specs.Waits.{Want, threads_rest, thread_rests, mutex_free, wanted_by, wanted_of, wanted, maker_of}
use Rattle.irq_model.specs.Waits.{mutex_holder, StandsIn, WaitsFor, WaitsThrough, IsHungPast}
use Rattle.irq_model.proofs.Same.{dev_from_same, same_self}
use Rattle.act_thread.specs.Threads.{is_idle_at}
use Rattle.line_scripts.specs.Rows.{RowSeen, calls_of, place_of, within_of}
use Rattle.line_marks.proofs.CallsDue.{idle_is}
use Rattle.line_marks.proofs.FreeingFollows.{mutex_is}
use Rattle.line_marks.proofs.Known.{no_thread}
use Rattle.line_marks.specs.Scripts.{IsAt}
use Rattle.line_marks.specs.State.{StateSeen, state_of}
use Rattle.line_marks.specs.Threads.{threads_of}
use Rattle.line_state.specs.Waits.{wait_of_due}
use Rattle.line_core.proofs.ActorWaits.{Waiting, in_call, on_flow, waiting, wants_none, for_cpus}
use Rattle.line_core.proofs.CallWaits.{Waits, for_nothing, for_flow, for_threads, for_mutex, for_freed, call_waits, IsHeld}
use Rattle.line_core.proofs.Ways.{IsOnFlow, flow_leads, no_sync, no_way_through, or_first, or_second, three_suffice}
use Rattle.line_core.specs.Hanging.{is_sync, is_thread_of, is_thread_hung, leads_to, wait_of_actor, way_from, way_through}

-- ---- the mutex has a holder only while it is held

no_place : (P : List Entry → List Entry → Bool) (past : List Entry) → some_place P past ≡ false → maker_of (last_place P past) ≡ None
no_place P [] h = refl
no_place P (e ∷ past) h =
    ap (λ (b : Bool). maker_of (cond b (e ∷ past) (last_place (λ after upto. P (e ∷ after) upto) past))) (or_first (P [] (e ∷ past)) _ h)
    ∙ no_place (λ after upto. P (e ∷ after) upto) past (or_second (P [] (e ∷ past)) _ h)

module _ (def : LineDef) (past : List Entry) (valid : IsValid def) (runs : HasValidRuns def) (legal : IsLegalPast def past)
    (scripts : List (DriverNo × RowSeen)) (calls_are : (r : DriverNo) → calls_of scripts r ≡ calls_by r def.calls)
    (at_place : (r : DriverNo) → IsAt def past r (place_of scripts r) (within_of scripts r)) where
  abbrev wait : Actor → WaitFor
  wait a = wait_of_actor def (state_of def past) scripts a

  abbrev way : Actor → Option Actor
  way a = way_from (state_of def past) (wait a)

  abbrev leads : ℕ → DevNo → Actor → Bool
  leads n d a = leads_to def (state_of def past) scripts n d a

  abbrev goes : ℕ → DevNo → Option Actor → Bool
  goes n d o = option_map_or (λ b. is_thread_of d b || leads n d b) o false

  abbrev at_work : DevNo → Bool
  at_work d = is_woken past d || is_running past d

  pub holder_frees : (b : Actor) → mutex_holder past ≡ Some b → (x : DevNo) × (freeing past ≡ Some (b, x))
  holder_frees b h = by_free (freeing past) refl
    where
      by_free : (o : Option (Actor × DevNo)) → freeing past ≡ o → (x : DevNo) × (freeing past ≡ Some (b, x))
      by_free None f = absurd (none-some b (sym (no_place is_being_freed_at past (mutex_is def past valid legal ∙ ap is_some f)) ∙ h))
      by_free (Some (m, x)) f =
          let same : m ≡ b = same_Some m b (sym (holds_it m x past f) ∙ h) in
          (x, f ∙ ap (λ (y : Actor). Some (y, x)) same)

  on_flow_leads : (n : ℕ) (d : DevNo) (a : Actor) → IsOnFlow (wait a) → leads n d a ≡ false
  on_flow_leads n d a h = flow_leads def (state_of def past) scripts d n a h

  idle_so : (d : DevNo) (b : Bool) → at_work d ≡ b → is_idle_at (threads_of def past) d ≡ not b
  idle_so d b h = idle_is def past valid legal d ∙ (neither (is_woken past d) (is_running past d) ∙ ap not h)
    where
      neither : (x y : Bool) → (not x && not y) ≡ not (x || y)
      neither true y = refl
      neither false true = refl
      neither false false = refl

  some_at_work : (d : DevNo) → at_work d ≡ true → (active_count def past == 0) ≡ false
  some_at_work d h = by_device (has_device def d) refl
    where
      here : has_device def d ≡ true → list_any (λ (x : DeviceDef). at_work x.dev) def.devices ≡ true
      here there = any_imply (is_device d) (λ (x : DeviceDef). at_work x.dev) def.devices
          (λ x is. subst (λ (y : DevNo). at_work y ≡ true) (dev_from_same d x.dev is) h) there

      neither : (x y : Bool) → x ≡ false → y ≡ false → (x || y) ≡ false
      neither true y p q = p
      neither false y p q = q

      by_device : (b : Bool) → has_device def d ≡ b → (active_count def past == 0) ≡ false
      by_device true there =
          none_counted (λ (x : DeviceDef). is_woken past x.dev) (λ (x : DeviceDef). is_running past x.dev) def.devices ∙ ap not (here there)
      by_device false gone =
          let none = no_thread def past d (kept def past valid legal) gone in
          absurd (both_ways (at_work d) (neither (is_woken past d) (is_running past d) none.1 none.0) h)

  -- ---- each step of a way is a wait

  stands : (a b : Actor) (w : Want) → next_past def past a ≡ None → wanted def a past ≡ w → StandsIn def past w b → WaitsFor def past a b
  stands a b w rests is s = (rests, subst (λ (x : Want). StandsIn def past x b) (sym is) s)

  threads_held : (c : Call) (n : ℕ) (d : DevNo) → wanted_by (c, n) ≡ threads_rest → next_step def past (c, n) ≡ synced_of def past
      → at_work d ≡ true → IsHeld def past c n
  threads_held c n d w step h = record {
    wants = λ x. let e = sym w ∙ x in cc;
    mutex = λ x. let e = sym w ∙ x in cc;
    step = step ∙ ap (λ (b : Bool). cond b (Some called.Synced) None) (some_at_work d h);
  }

  mutex_held : (c : Call) (n : ℕ) → wanted_by (c, n) ≡ mutex_free → (holds_mutex past ≡ true → next_step def past (c, n) ≡ None)
      → holds_mutex past ≡ true → IsHeld def past c n
  mutex_held c n w step held = record { wants = λ x. let e = sym w ∙ x in cc; mutex = λ x. held; step = step held }

  freed_held : (c : Call) (n : ℕ) (x : DevNo) → wanted_by (c, n) ≡ thread_rests x → next_step def past (c, n) ≡ freed_of x past
      → at_work x ≡ true → IsHeld def past c n
  freed_held c n x w step h = record {
    wants = λ y. let e = sym w ∙ y in cc;
    mutex = λ y. let e = sym w ∙ y in cc;
    step = step ∙ ap (λ (b : Bool). cond b None (Some (called.Freed x))) h;
  }

  frees_it : (a : Actor) (c : Call) (n : ℕ) (x : DevNo) (m : ℕ) → due_of_actor def a past ≡ Some (c, n) → c ≡ calls.Free x → n ≡ suc m
      → freeing past ≡ Some (a, x)
  frees_it a c n x m due call count =
      (kept def past valid legal).frees.within a x m (due ∙ (ap (λ (y : Call). Some (y, n)) call ∙ ap (λ (k : ℕ). Some (calls.Free x, k)) count))

  -- a sync waits for each thread that is at work
  sync_waits : (a : Actor) (d : DevNo) → is_sync (wait a) ≡ true → at_work d ≡ true → WaitsFor def past a (actors.Thread d)
  sync_waits a d h work = by_waiting (waiting def past valid runs legal scripts calls_are at_place a)
    where
      not_so : (w : WaitFor) → wait a ≡ w → is_sync w ≡ false → WaitsFor def past a (actors.Thread d)
      not_so w is none = absurd (both_ways (is_sync (wait a)) (ap is_sync is ∙ none) h)

      by_call : (c : Call) (n : ℕ) → wanted def a past ≡ wanted_by (c, n) → wait a ≡ block_of c n → (IsHeld def past c n → next_past def past a ≡ None)
          → Waits def past c n → WaitsFor def past a (actors.Thread d)
      by_call c n wants is held (for_nothing w b) = not_so waits.Nothing (is ∙ b) refl
      by_call c n wants is held (for_flow w b) = not_so waits.Flow (is ∙ b) refl
      by_call c n wants is held (for_threads w b step) =
          stands a (actors.Thread d) threads_rest (held (threads_held c n d w step work)) (wants ∙ w) work
      by_call c n wants is held (for_mutex w b step) = not_so waits.Mutex (is ∙ b) refl
      by_call c n wants is held (for_freed x m call count w b step) = not_so waits.Freed (is ∙ b) refl

      by_due : (o : Option (Call × ℕ)) → wanted def a past ≡ wanted_of o → wait a ≡ wait_of_due o
          → ((c : Call) (n : ℕ) → o ≡ Some (c, n) → IsHeld def past c n → next_past def past a ≡ None) → WaitsFor def past a (actors.Thread d)
      by_due None wants is held = not_so waits.Nothing is refl
      by_due (Some (c, n)) wants is held = by_call c n wants is (held c n refl) (call_waits def past c n)

      by_waiting : Waiting def past scripts a → WaitsFor def past a (actors.Thread d)
      by_waiting (in_call o due wants is held) = by_due o wants is held
      by_waiting (on_flow is cpus) = not_so (wait a) refl (no_sync (wait a) is)

  -- who wants the mutex waits for who frees a device, and who frees it for its thread
  way_waits : (a b : Actor) → way a ≡ Some b → WaitsFor def past a b
  way_waits a b h = by_waiting (waiting def past valid runs legal scripts calls_are at_place a)
    where
      s : StateSeen
      s = state_of def past

      led : (w : WaitFor) (o : Option (Actor × DevNo)) → wait a ≡ w → freeing past ≡ o → way_through s o w ≡ Some b
      led w o is f = sym (ap (λ (p : Option (Actor × DevNo)). way_through s p w) f) ∙ (sym (ap (way_from s) is) ∙ h)

      nowhere : (w : WaitFor) → wait a ≡ w → ((o : Option (Actor × DevNo)) → way_through s o w ≡ None) → WaitsFor def past a b
      nowhere w is none = absurd (none-some b (sym (none (freeing past)) ∙ led w (freeing past) is refl))

      for_holder : wanted def a past ≡ mutex_free → wait a ≡ waits.Mutex → (holds_mutex past ≡ true → next_past def past a ≡ None)
          → (o : Option (Actor × DevNo)) → freeing past ≡ o → WaitsFor def past a b
      for_holder wants is rests None f = absurd (none-some b (led waits.Mutex None is f))
      for_holder wants is rests (Some (m, x)) f =
          let same : m ≡ b = same_Some m b (led waits.Mutex (Some (m, x)) is f) in
          stands a b mutex_free (rests (freeing_holds past (m, x) f)) wants (holds_it m x past f ∙ ap (λ (y : Actor). Some y) same)

      for_freed_one : (x : DevNo) → wanted def a past ≡ thread_rests x → wait a ≡ waits.Freed → (at_work x ≡ true → next_past def past a ≡ None)
          → freeing past ≡ Some (a, x) → (work : Bool) → at_work x ≡ work → WaitsFor def past a b
      for_freed_one x wants is rests f true work =
          let same : actors.Thread x ≡ b = same_Some (actors.Thread x) b
          (sym (ap (λ (t : Bool). cond t None (Some (actors.Thread x))) (idle_so x true work)) ∙ led waits.Freed (Some (a, x)) is f) in
          subst (λ (y : Actor). WaitsFor def past a y) same (stands a (actors.Thread x) (thread_rests x) (rests work) wants (refl, work))
      for_freed_one x wants is rests f false work =
          absurd (none-some b (sym (ap (λ (t : Bool). cond t None (Some (actors.Thread x))) (idle_so x false work)) ∙ led waits.Freed (Some (a, x)) is f))

      no_end : (w : WaitFor) → IsOnFlow w → (o : Option (Actor × DevNo)) → way_through s o w ≡ None
      no_end w is o = no_way_through s o w is

      no_sync_end : (o : Option (Actor × DevNo)) → way_through s o waits.Threads ≡ None
      no_sync_end None = refl
      no_sync_end (Some free) = refl

      by_call : (c : Call) (n : ℕ) → due_of_actor def a past ≡ Some (c, n) → wanted def a past ≡ wanted_by (c, n) → wait a ≡ block_of c n
          → (IsHeld def past c n → next_past def past a ≡ None) → Waits def past c n → WaitsFor def past a b
      by_call c n due wants is held (for_nothing w k) = nowhere waits.Nothing (is ∙ k) (no_end waits.Nothing (inl refl))
      by_call c n due wants is held (for_flow w k) = nowhere waits.Flow (is ∙ k) (no_end waits.Flow (inr refl))
      by_call c n due wants is held (for_threads w k step) = nowhere waits.Threads (is ∙ k) no_sync_end
      by_call c n due wants is held (for_mutex w k step) =
          for_holder (wants ∙ w) (is ∙ k) (λ on. held (mutex_held c n w step on)) (freeing past) refl
      by_call c n due wants is held (for_freed x m call count w k step) =
          for_freed_one x (wants ∙ w) (is ∙ k) (λ work. held (freed_held c n x w step work)) (frees_it a c n x m due call count) (at_work x) refl

      by_due : (o : Option (Call × ℕ)) → due_of_actor def a past ≡ o → wanted def a past ≡ wanted_of o → wait a ≡ wait_of_due o
          → ((c : Call) (n : ℕ) → o ≡ Some (c, n) → IsHeld def past c n → next_past def past a ≡ None) → WaitsFor def past a b
      by_due None due wants is held = nowhere waits.Nothing is (no_end waits.Nothing (inl refl))
      by_due (Some (c, n)) due wants is held = by_call c n due wants is (held c n refl) (call_waits def past c n)

      by_waiting : Waiting def past scripts a → WaitsFor def past a b
      by_waiting (in_call o due wants is held) = by_due o due wants is held
      by_waiting (on_flow is cpus) = nowhere (wait a) refl (no_end (wait a) is)

  -- ---- a way that leads to a thread is one of waits

  thread_from : (d : DevNo) (b : Actor) → is_thread_of d b ≡ true → b ≡ actors.Thread d
  thread_from d (actors.Thread e) h = ap (λ (x : DevNo). actors.Thread x) (sym (dev_from_same d e h))
  thread_from d (actors.Cpu c) h = cc
  thread_from d (actors.Driver r) h = cc

  leads_through : (n : ℕ) (d : DevNo) (a : Actor) → at_work d ≡ true → leads n d a ≡ true → (k : ℕ) × WaitsThrough def past k a (actors.Thread d)
  leads_through zero d a work h = cc
  leads_through (suc n) d a work h = by_case (or_cases (is_sync (wait a)) (goes n d (way a)) h) (λ b w. leads_through n d b work w)
    where
      next_one : (b : Actor) → way a ≡ Some b → (is_thread_of d b ≡ true) ⊎ (leads n d b ≡ true)
          → ((b : Actor) → leads n d b ≡ true → (k : ℕ) × WaitsThrough def past k b (actors.Thread d)) → (k : ℕ) × WaitsThrough def past k a (actors.Thread d)
      next_one b is (inl here) rest = (zero, subst (λ (x : Actor). WaitsFor def past a x) (thread_from d b here) (way_waits a b is))
      next_one b is (inr more) rest = let w = rest b more in (suc w.0, (b, way_waits a b is, w.1))

      by_way : (o : Option Actor) → way a ≡ o → goes n d o ≡ true
          → ((b : Actor) → leads n d b ≡ true → (k : ℕ) × WaitsThrough def past k b (actors.Thread d)) → (k : ℕ) × WaitsThrough def past k a (actors.Thread d)
      by_way None is h rest = cc
      by_way (Some b) is h rest = next_one b is (or_cases (is_thread_of d b) (leads n d b) h) rest

      by_case : (is_sync (wait a) ≡ true) ⊎ (goes n d (way a) ≡ true)
          → ((b : Actor) → leads n d b ≡ true → (k : ℕ) × WaitsThrough def past k b (actors.Thread d)) → (k : ℕ) × WaitsThrough def past k a (actors.Thread d)
      by_case (inl syncs) rest = (zero, sync_waits a d syncs work)
      by_case (inr led) rest = by_way (way a) refl led rest

  -- a thread that leads anywhere is in a run
  pub leads_at_work : (n : ℕ) (d : DevNo) → leads n d (actors.Thread d) ≡ true → at_work d ≡ true
  leads_at_work n d h = by_waiting (waiting def past valid runs legal scripts calls_are at_place (actors.Thread d))
    where
      nowhere : IsOnFlow (wait (actors.Thread d)) → at_work d ≡ true
      nowhere is = absurd (both_ways (leads n d (actors.Thread d)) (on_flow_leads n d (actors.Thread d) is) h)

      by_due : (o : Option (Call × ℕ)) → due_of_actor def (actors.Thread d) past ≡ o → wait (actors.Thread d) ≡ wait_of_due o → at_work d ≡ true
      by_due None due is = nowhere (inl is)
      by_due (Some c) due is = or_right (is_woken past d) (is_running past d) (thread_works def d c past due).0

      by_waiting : Waiting def past scripts (actors.Thread d) → at_work d ≡ true
      by_waiting (in_call o due wants is held) = by_due o due is
      by_waiting (on_flow is cpus) = nowhere is

  pub thread_hangs : (d : DevNo) → is_thread_hung def (state_of def past) scripts d ≡ true → IsHungPast def past (actors.Thread d)
  thread_hangs d h = leads_through 3 d (actors.Thread d) (leads_at_work 3 d h) h

  -- ---- and each wait of a thread that is hung is on such a way

  -- from b no way leads to d's thread
  abbrev LeadsNot : DevNo → Actor → Type 0
  LeadsNot d b = (n : ℕ) → leads n d b ≡ false

  next_leads_not : (d : DevNo) (a b : Actor) → LeadsNot d a → WaitsFor def past a b → LeadsNot d b × (is_thread_of d b ≡ false)
  next_leads_not d a b never w = by_waiting (waiting def past valid runs legal scripts calls_are at_place a)
    where
      s : StateSeen
      s = state_of def past

      cpus_not : (c : CpuNo) × (b ≡ actors.Cpu c) → LeadsNot d b × (is_thread_of d b ≡ false)
      cpus_not (c, is) = (
        λ n. ap (leads n d) is ∙ on_flow_leads n d (actors.Cpu c) (inl refl),
        ap (is_thread_of d) is,
      )

      on_way : way a ≡ Some b → LeadsNot d b × (is_thread_of d b ≡ false)
      on_way is = (λ n. or_second (is_thread_of d b) (leads n d b) (later n), or_first (is_thread_of d b) (leads 0 d b) (later 0))
        where
          later : (n : ℕ) → (is_thread_of d b || leads n d b) ≡ false
          later n = ap (goes n d) (sym is) ∙ or_second (is_sync (wait a)) (goes n d (way a)) (never (suc n))

      for_syncs : wait a ≡ waits.Threads → LeadsNot d b × (is_thread_of d b ≡ false)
      for_syncs is = absurd (both_ways (is_sync (wait a)) (or_first (is_sync (wait a)) (goes 0 d (way a)) (never 1)) (ap is_sync is))

      for_holder : wanted def a past ≡ mutex_free → wait a ≡ waits.Mutex → LeadsNot d b × (is_thread_of d b ≡ false)
      for_holder wants is =
          let f = holder_frees b (subst (λ (x : Want). StandsIn def past x b) wants w.1) in
          on_way (ap (way_from s) is ∙ ap (λ (o : Option (Actor × DevNo)). way_through s o waits.Mutex) f.1)

      for_freed_one : (x : DevNo) → wanted def a past ≡ thread_rests x → wait a ≡ waits.Freed → freeing past ≡ Some (a, x)
          → LeadsNot d b × (is_thread_of d b ≡ false)
      for_freed_one x wants is f = by_actor b (subst (λ (y : Want). StandsIn def past y b) wants w.1) refl
        where
          by_actor : (y : Actor) → StandsIn def past (thread_rests x) y → b ≡ y → LeadsNot d b × (is_thread_of d b ≡ false)
          by_actor (actors.Thread e) st same =
              let led : way a ≡ Some (actors.Thread x) = ap (way_from s) is ∙ (ap (λ (o : Option (Actor × DevNo)). way_through s o waits.Freed) f
              ∙ ap (λ (t : Bool). cond t None (Some (actors.Thread x))) (idle_so x true st.1)) in
              on_way (led ∙ ap Some (ap (λ (y : DevNo). actors.Thread y) st.0 ∙ sym same))
          by_actor (actors.Cpu c) st same = absurd st
          by_actor (actors.Driver r) st same = absurd st

      by_call : (c : Call) (n : ℕ) → due_of_actor def a past ≡ Some (c, n) → wanted def a past ≡ wanted_by (c, n) → wait a ≡ block_of c n
          → Waits def past c n → LeadsNot d b × (is_thread_of d b ≡ false)
      by_call c n due wants is (for_nothing k t) = absurd (wants_none def past a b (wants ∙ k) w)
      by_call c n due wants is (for_flow k t) = cpus_not (for_cpus def past a b (wants ∙ k) w)
      by_call c n due wants is (for_threads k t step) = for_syncs (is ∙ t)
      by_call c n due wants is (for_mutex k t step) = for_holder (wants ∙ k) (is ∙ t)
      by_call c n due wants is (for_freed x m call count k t step) = for_freed_one x (wants ∙ k) (is ∙ t) (frees_it a c n x m due call count)

      by_due : (o : Option (Call × ℕ)) → due_of_actor def a past ≡ o → wanted def a past ≡ wanted_of o → wait a ≡ wait_of_due o
          → LeadsNot d b × (is_thread_of d b ≡ false)
      by_due None due wants is = absurd (wants_none def past a b wants w)
      by_due (Some (c, n)) due wants is = by_call c n due wants is (call_waits def past c n)

      by_waiting : Waiting def past scripts a → LeadsNot d b × (is_thread_of d b ≡ false)
      by_waiting (in_call o due wants is held) = by_due o due wants is
      by_waiting (on_flow is cpus) = cpus_not (cpus b w)

  never_back : (d : DevNo) (n : ℕ) (a : Actor) → LeadsNot d a → WaitsThrough def past n a (actors.Thread d) → ⊥
  never_back d zero a never w = both_ways (same_dev d d) (next_leads_not d a (actors.Thread d) never w).1 (same_self d)
  never_back d (suc n) a never (c, w, rest) = never_back d n c (next_leads_not d a c never w).0 rest

  pub hung_is : (d : DevNo) → IsHungPast def past (actors.Thread d) → is_thread_hung def (state_of def past) scripts d ≡ true
  hung_is d (n, through) = by_test (leads 3 d (actors.Thread d)) refl
    where
      by_test : (b : Bool) → leads 3 d (actors.Thread d) ≡ b → b ≡ true
      by_test true is = refl
      by_test false is = absurd (never_back d n (actors.Thread d) (three_suffice def (state_of def past) scripts d (actors.Thread d) is) through)
