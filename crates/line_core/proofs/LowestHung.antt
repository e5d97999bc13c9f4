-- The lowest actor that is hung is what the state says.
use Rattle.std.proofs.Common.{◌≡◌, ◌⊎◌, inl, inr, ℕ, zero, suc, Bool, true, false, ◌||◌, cond}
use Rattle.std.proofs.Common.{is_none, is_some, Option, Some, None, List, refl, sym, ap}
use Rattle.std.proofs.Common.{subst, ◌∙◌, arith}
use Rattle.std.proofs.lemmas.Bool.{both_ways, le-ltb}
use Rattle.std.proofs.lemmas.Option.{same_Some, none-some}
use Rattle.irq_base.specs.declared.calls.Call.TheVariants as calls
use Rattle.irq_base.specs.declared.entries.Actor.{Actor}
use Rattle.irq_base.specs.declared.entries.Actor.TheVariants as actors
use Rattle.irq_base.specs.declared.entries.Entry.{Entry}
use Rattle.irq_base.specs.declared.lines.LineDef.{LineDef}
use Rattle.irq_base.specs.declared.numbers.CpuNo.{CpuNo}
use Rattle.irq_base.specs.declared.numbers.DevNo.{DevNo}
use Rattle.irq_base.specs.declared.numbers.DriverNo.{DriverNo}
use Rattle.irq_laws.proofs.KeptAlways.{kept}
use Rattle.irq_laws.proofs.Standstill.{flow_hung, free_wants, is_its_cpu}
use Rattle.irq_laws.proofs.WithinFree.{within_free}
use Rattle.irq_model.specs.Due.{calls_by}
use Rattle.irq_model.specs.Legal.{IsLegalPast}
use Rattle.irq_model.specs.Lines.{has_device}
use Rattle.irq_model.specs.Next.{next_past}
use Rattle.irq_model.specs.Rounds.{at_work, flow, is_cpu}
use Rattle.irq_model.specs.Threads.{is_running, is_woken}
use Rattle.irq_model.specs.Valid.{IsValid}
use Rattle.irq_model.specs.ValidRuns.{HasValidRuns}
use Rattle.irq_model.specs.Waits.{Want, flow_ends, threads_rest, thread_rests, mutex_free, nothing_wanted, wanted, wanted_by, wanted_of, wanted_at_work}
use Rattle.irq_model.specs.Waits.{mutex_holder, StandsIn, WaitsFor, WaitsThrough, IsHungPast, IsLowestHungPast, is_before}
use Rattle.device_table.specs.Rows.{has}
use Rattle.device_table.proofs.Tables.{at_device}
use Rattle.line_scripts.specs.Rows.{RowSeen, calls_of, place_of, within_of}
use Rattle.line_marks.proofs.CpuDueIs.{cpu_due_is}
use Rattle.line_marks.proofs.Known.{no_thread}
use Rattle.line_marks.specs.CpuDue.{cpu_due}
use Rattle.line_marks.specs.Scripts.{IsAt}
use Rattle.line_marks.specs.State.{StateSeen, state_of}
use Rattle.line_marks.specs.Threads.{thread_of, threads_of}
use Rattle.line_state.proofs.LowestOf.{Below, of_below, of_passes}
use Rattle.line_state.specs.Seen.{spins_in}
use Rattle.line_core.proofs.ActorWaits.{cpu_waits, for_cpus, wants_none}
use Rattle.line_core.proofs.CallWaits.{Waits, for_nothing, for_flow, for_threads, for_mutex, for_freed, call_waits}
use Rattle.line_core.proofs.HungThreads.{holder_frees, hung_is, leads_at_work, thread_hangs}
use Rattle.line_core.specs.Hanging.{hung_actor, is_thread_hung, lowest_hung_by, lowest_hung_thread, spinning_in}

-- ---- ways of waits

first_wait : (def : LineDef) (past : List Entry) (n : ℕ) (a b : Actor) → WaitsThrough def past n a b → (c : Actor) × WaitsFor def past a c
first_wait def past zero a b w = (b, w)
first_wait def past (suc n) a b (c, w, rest) = (c, w)

one_more : (def : LineDef) (past : List Entry) (n : ℕ) (a b c : Actor) → WaitsThrough def past n a b → WaitsFor def past b c
    → WaitsThrough def past (suc n) a c
one_more def past zero a b c w v = (b, w, v)
one_more def past (suc n) a b c (x, w, rest) v = (x, w, one_more def past n x b c rest v)

-- a driver is waited for as the holder of the mutex alone
holds_for : (def : LineDef) (past : List Entry) (w : Want) (r : DriverNo) → StandsIn def past w (actors.Driver r) → mutex_holder past ≡ Some (actors.Driver r)
holds_for def past flow_ends r h = absurd h
holds_for def past threads_rest r h = absurd h
holds_for def past (thread_rests d) r h = absurd h
holds_for def past mutex_free r h = h
holds_for def past nothing_wanted r h = absurd h

waited_holds : (def : LineDef) (past : List Entry) (n : ℕ) (a : Actor) (r : DriverNo) → WaitsThrough def past n a (actors.Driver r)
    → mutex_holder past ≡ Some (actors.Driver r)
waited_holds def past zero a r w = holds_for def past (wanted def a past) r w.1
waited_holds def past (suc n) a r (c, w, rest) = waited_holds def past n c r rest

free_dev : (x y : DevNo) → calls.Free x ≡ calls.Free y → x ≡ y
free_dev x y h = cc

-- the thread of that device alone stands in the way
for_thread : (def : LineDef) (past : List Entry) (a b : Actor) (x : DevNo) → wanted def a past ≡ thread_rests x → WaitsFor def past a b → b ≡ actors.Thread x
for_thread def past a b x h w = by_actor b (subst (λ (y : Want). StandsIn def past y b) h w.1)
  where
    by_actor : (b : Actor) → StandsIn def past (thread_rests x) b → b ≡ actors.Thread x
    by_actor (actors.Thread e) s = ap (λ (y : DevNo). actors.Thread y) (sym s.0)
    by_actor (actors.Cpu c) s = absurd s
    by_actor (actors.Driver r) s = absurd s

module _ (def : LineDef) (past : List Entry) (valid : IsValid def) (runs : HasValidRuns def) (legal : IsLegalPast def past)
    (scripts : List (DriverNo × RowSeen)) (calls_are : (r : DriverNo) → calls_of scripts r ≡ calls_by r def.calls)
    (at_place : (r : DriverNo) → IsAt def past r (place_of scripts r) (within_of scripts r)) where
  abbrev s : StateSeen
  s = state_of def past

  abbrev hung_thread : DevNo → Bool
  hung_thread d = is_thread_hung def (state_of def past) scripts d

  -- ---- threads

  hung_there : (d : DevNo) → hung_thread d ≡ true → has (threads_of def past) d ≡ true
  hung_there d h = by_device (has_device def d) refl
    where
      neither : (x y : Bool) → x ≡ false → y ≡ false → (x || y) ≡ false
      neither true y p q = p
      neither false y p q = q

      by_device : (b : Bool) → has_device def d ≡ b → has (threads_of def past) d ≡ true
      by_device true there = ap is_some (at_device (thread_of past) def.devices d there)
      by_device false gone =
          let none = no_thread def past d (kept def past valid legal) gone in
          absurd (both_ways (is_woken past d || is_running past d) (neither (is_woken past d) (is_running past d) none.1 none.0)
          (leads_at_work def past valid runs legal scripts calls_are at_place 3 d h))

  -- a thread that is hung isn't below the lowest
  hung_above : (d : DevNo) → IsHungPast def past (actors.Thread d) → Below (lowest_hung_thread def (state_of def past) scripts) d
  hung_above d hung =
      let h = hung_is def past valid runs legal scripts calls_are at_place d hung in
      of_below hung_thread (threads_of def past) d (hung_there d h) h

  -- ---- the flow's processor

  cpu_hangs : (c : CpuNo) → spinning_in def (state_of def past) ≡ Some c → IsHungPast def past (actors.Cpu c)
  cpu_hangs c h = by_flow (flow def past) refl h
    where
      none_is : (o : Option Entry) → is_none o ≡ true → o ≡ None
      none_is None i = refl
      none_is (Some e) i = cc

      by_test : (x : CpuNo) → flow def past ≡ Some x → (b : Bool) → is_none (cpu_due def (state_of def past) x) ≡ b → cond b (Some x) None ≡ Some c
          → IsHungPast def past (actors.Cpu c)
      by_test x f true is i =
          let still : next_past def past (actors.Cpu x) ≡ None = cpu_due_is def past x valid legal ∙ none_is (cpu_due def (state_of def past) x) is in
          subst (λ (y : CpuNo). IsHungPast def past (actors.Cpu y)) (same_Some x c i) (flow_hung def past runs legal x f still)
      by_test x f false is i = absurd (none-some c i)

      by_flow : (o : Option CpuNo) → flow def past ≡ o → cond (spins_in def (state_of def past) o) o None ≡ Some c → IsHungPast def past (actors.Cpu c)
      by_flow None f i = absurd (none-some c i)
      by_flow (Some x) f i = by_test x f (is_none (cpu_due def (state_of def past) x)) refl i

  hung_spins : (c : CpuNo) → IsHungPast def past (actors.Cpu c) → spinning_in def (state_of def past) ≡ Some c
  hung_spins c (n, through) = by_wait (first_wait def past n (actors.Cpu c) (actors.Cpu c) through)
    where
      spins : flow def past ≡ Some c → next_past def past (actors.Cpu c) ≡ None → spinning_in def (state_of def past) ≡ Some c
      spins f still =
          let none : cpu_due def (state_of def past) c ≡ None = sym (cpu_due_is def past c valid legal) ∙ still in
          ap (λ (o : Option CpuNo). cond (spins_in def (state_of def past) o) o None) f
          ∙ ap (λ (o : Option Entry). cond (is_none o) (Some c) None) none

      by_flow : (b : Actor) → WaitsFor def past (actors.Cpu c) b → (f : Bool) → is_cpu c (flow def past) ≡ f → spinning_in def (state_of def past) ≡ Some c
      by_flow b w true is = spins (is_its_cpu c (flow def past) is) w.0
      by_flow b w false is =
          absurd (wants_none def past (actors.Cpu c) b
          (ap (λ (f : Bool). cond f (wanted_at_work def (at_work past) past) nothing_wanted) is) w)

      by_wait : (b : Actor) × WaitsFor def past (actors.Cpu c) b → spinning_in def (state_of def past) ≡ Some c
      by_wait (b, w) = by_flow b w (is_cpu c (flow def past)) refl

  -- ---- a driver that is hung waits for a thread that is hung

  cpus_stay : (n : ℕ) (c : CpuNo) (r : DriverNo) → WaitsThrough def past n (actors.Cpu c) (actors.Driver r) → ⊥
  cpus_stay zero c r w = let x = cpu_waits def past runs legal c (actors.Driver r) w in let e : actors.Driver r ≡ actors.Cpu x.0 = x.1 in cc
  cpus_stay (suc n) c r (b, w, rest) =
      let x = cpu_waits def past runs legal c b w in
      cpus_stay n x.0 r (subst (λ (y : Actor). WaitsThrough def past n y (actors.Driver r)) x.1 rest)

  module _ (r : DriverNo) (x : DevNo) (m : ℕ) (wants : wanted def (actors.Driver r) past ≡ wanted_by (calls.Free x, suc m)) where
    freer_waits : (b : Actor) → WaitsFor def past (actors.Driver r) b → (b ≡ actors.Thread x) ⊎ ((c : CpuNo) × (b ≡ actors.Cpu c))
    freer_waits b w = by_call (call_waits def past (calls.Free x) (suc m))
      where
        by_call : Waits def past (calls.Free x) (suc m) → (b ≡ actors.Thread x) ⊎ ((c : CpuNo) × (b ≡ actors.Cpu c))
        by_call (for_nothing k t) = absurd (wants_none def past (actors.Driver r) b (wants ∙ k) w)
        by_call (for_flow k t) = inr (for_cpus def past (actors.Driver r) b (wants ∙ k) w)
        by_call (for_threads k t step) = absurd ((free_wants x m).0 k)
        by_call (for_mutex k t step) = absurd ((free_wants x m).1 k)
        by_call (for_freed y n call count k t step) =
            inl (for_thread def past (actors.Driver r) b y (wants ∙ k) w ∙ ap (λ (z : DevNo). actors.Thread z) (sym (free_dev x y call)))

    freer_hung : (n : ℕ) → WaitsThrough def past n (actors.Driver r) (actors.Driver r) → IsHungPast def past (actors.Thread x)
    freer_hung zero w = by_end (freer_waits (actors.Driver r) w)
      where
        by_end : (actors.Driver r ≡ actors.Thread x) ⊎ ((c : CpuNo) × (actors.Driver r ≡ actors.Cpu c)) → IsHungPast def past (actors.Thread x)
        by_end (inl e) = cc
        by_end (inr (c, e)) = cc
    freer_hung (suc n) (b, w, rest) = by_end (freer_waits b w)
      where
        by_end : (b ≡ actors.Thread x) ⊎ ((c : CpuNo) × (b ≡ actors.Cpu c)) → IsHungPast def past (actors.Thread x)
        by_end (inl e) = (
          suc n,
          one_more def past n (actors.Thread x) (actors.Driver r) (actors.Thread x)
              (subst (λ (y : Actor). WaitsThrough def past n y (actors.Driver r)) e rest)
              (subst (λ (y : Actor). WaitsFor def past (actors.Driver r) y) e w),
        )
        by_end (inr (c, e)) = absurd (cpus_stay n c r (subst (λ (y : Actor). WaitsThrough def past n y (actors.Driver r)) e rest))

  driver_hangs : (r : DriverNo) → IsHungPast def past (actors.Driver r) → (d : DevNo) × IsHungPast def past (actors.Thread d)
  driver_hangs r (n, through) =
      let f = holder_frees def past valid runs legal scripts calls_are at_place (actors.Driver r) (waited_holds def past n (actors.Driver r) r through) in
      let due = within_free def past legal (actors.Driver r) f.0 f.1 in
      (f.0, freer_hung r f.0 due.0 (ap wanted_of due.1) n through)

  -- ---- the lowest

  pub lowest_hung : IsLowestHungPast def past (lowest_hung_by def (state_of def past) scripts)
  lowest_hung = by_thread (lowest_hung_thread def (state_of def past) scripts) refl (spinning_in def (state_of def past)) refl
    where
      above_thread : (d : DevNo) → lowest_hung_thread def (state_of def past) scripts ≡ Some d → (b : Actor) → IsHungPast def past b
          → is_before b (actors.Thread d) ≡ false
      above_thread d is (actors.Thread e) hung =
          le-ltb e.0 d.0 (subst (λ (o : Option DevNo). Below o e) is (hung_above e hung))
      above_thread d is (actors.Cpu c) hung = refl
      above_thread d is (actors.Driver r) hung = refl

      no_thread_hangs : lowest_hung_thread def (state_of def past) scripts ≡ None → (d : DevNo) → IsHungPast def past (actors.Thread d) → ⊥
      no_thread_hangs is d hung = subst (λ (o : Option DevNo). Below o d) is (hung_above d hung)

      above_cpu : (c : CpuNo) → lowest_hung_thread def (state_of def past) scripts ≡ None → spinning_in def (state_of def past) ≡ Some c
          → (b : Actor) → IsHungPast def past b → is_before b (actors.Cpu c) ≡ false
      above_cpu c none is (actors.Thread d) hung = absurd (no_thread_hangs none d hung)
      above_cpu c none is (actors.Cpu x) hung =
          let same : c ≡ x = same_Some c x (sym is ∙ hung_spins x hung) in
          let num : c.0 ≡ x.0 = ap (λ (y : CpuNo). y.0) same in
          le-ltb x.0 c.0 (omega (arith, num))
      above_cpu c none is (actors.Driver r) hung = refl

      none_hangs : lowest_hung_thread def (state_of def past) scripts ≡ None → spinning_in def (state_of def past) ≡ None
          → (b : Actor) → IsHungPast def past b → ⊥
      none_hangs none is (actors.Thread d) hung = no_thread_hangs none d hung
      none_hangs none is (actors.Cpu x) hung = none-some x (sym is ∙ hung_spins x hung)
      none_hangs none is (actors.Driver r) hung = let w = driver_hangs r hung in no_thread_hangs none w.0 w.1

      told : (o : Option DevNo) (p : Option CpuNo) → lowest_hung_thread def (state_of def past) scripts ≡ o → spinning_in def (state_of def past) ≡ p
          → IsLowestHungPast def past (hung_actor o p) → IsLowestHungPast def past (lowest_hung_by def (state_of def past) scripts)
      told o p is so h =
          subst (λ (x : Option DevNo). IsLowestHungPast def past (hung_actor x (spinning_in def (state_of def past)))) (sym is)
          (subst (λ (y : Option CpuNo). IsLowestHungPast def past (hung_actor o y)) (sym so) h)

      by_thread : (o : Option DevNo) → lowest_hung_thread def (state_of def past) scripts ≡ o
          → (p : Option CpuNo) → spinning_in def (state_of def past) ≡ p → IsLowestHungPast def past (lowest_hung_by def (state_of def past) scripts)
      by_thread (Some d) is p so = told (Some d) p is so (
        thread_hangs def past valid runs legal scripts calls_are at_place d (of_passes hung_thread (threads_of def past) d is).1,
        above_thread d is,
      )
      by_thread None is (Some c) so = told None (Some c) is so (cpu_hangs c so, above_cpu c is so)
      by_thread None is None so = told None None is so (none_hangs is so)
