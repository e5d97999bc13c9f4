-- One more due entry keeps what holds of a line.
use Rattle.std.proofs.Common.{◌+◌, ◌<◌, ◌≡◌, ℕ, ◌≤◌, ◌^◌, ◌||◌, Bool, true, false, cond, is_some, option_map, Option, Some, None, List, []}
use Rattle.std.proofs.Common.{◌∷◌, ◌++◌, length, slice_get, reverse, refl, sym, ap, subst, ◌∙◌, arith}
use Rattle.std.specs.Prelude.{IfSome}
use Rattle.std.proofs.lemmas.List.{length-append, length-reverse, reverse-append}
use Rattle.std.proofs.lemmas.Option.{none-some, same_Some}
use Rattle.irq_base.specs.Who.{actor_of}
use Rattle.irq_base.specs.declared.calls.Call.{Call}
use Rattle.irq_base.specs.declared.calls.Call.TheVariants as calls
use Rattle.irq_base.specs.declared.entries.Actor.{Actor}
use Rattle.irq_base.specs.declared.entries.Actor.TheVariants as actors
use Rattle.irq_base.specs.declared.entries.Entry.{Entry}
use Rattle.irq_base.specs.declared.entries.Entry.TheVariants as by
use Rattle.irq_base.specs.declared.entries.DriverEntry.TheVariants as drivers
use Rattle.irq_base.specs.declared.lines.LineDef.{LineDef}
use Rattle.irq_base.specs.declared.devices.Part.{Part}
use Rattle.irq_base.specs.declared.devices.Part.TheVariants as parts
use Rattle.irq_base.specs.declared.numbers.CpuNo.{CpuNo}
use Rattle.irq_base.specs.declared.numbers.DevNo.{DevNo}
use Rattle.irq_base.specs.declared.numbers.DriverNo.{DriverNo}
use Rattle.irq_laws.proofs.FreesKept.{begun_is_linked}
use Rattle.irq_laws.proofs.ImpliesFlow.{begin_due, return_due, handler_call_due}
use Rattle.irq_laws.proofs.ImpliesThread.{thread_call_due, thread_there as device_there}
use Rattle.irq_laws.proofs.KeptAlways.{kept}
use Rattle.irq_laws.proofs.OwnLaws.{due_is_own}
use Rattle.irq_laws.proofs.RestKept.{called_there, there_named}
use Rattle.irq_model.specs.Due.{calls_by, entries_by, due_call, entries_of_call, begins_not_there}
use Rattle.irq_model.specs.Kinds.{same_driver, is_driver, is_by_driver}
use Rattle.irq_model.specs.Legal.{IsDue, IsLegalPast}
use Rattle.irq_model.specs.Lines.{has_device, run_script}
use Rattle.irq_model.specs.Next.{next, next_past, next_of_driver}
use Rattle.irq_model.specs.Reason.{is_being_freed}
use Rattle.irq_model.specs.Rounds.{at_work}
use Rattle.irq_model.specs.Runs.{due_in_run}
use Rattle.irq_model.proofs.DueSteps.{laid_start, laid_within, part_at}
use Rattle.irq_model.specs.Laid.{with_count}
use Rattle.irq_model.proofs.Same.{same_self_driver, driver_from_same}
use Rattle.line_scripts.specs.Endings.{completes}
use Rattle.line_scripts.specs.Rows.{RowSeen, calls_of, call_of, place_of, within_of}
use Rattle.act_list.specs.Actions.{has}
use Rattle.device_table.proofs.Tables.{at_device, at_none}
use Rattle.device_table.specs.Rows.{at}
use Rattle.act_thread.specs.declared.rows.ThreadRow.{ThreadRow}
use Rattle.run_scripts.specs.Groups.{group_of}
use Rattle.run_scripts.specs.Places.{PlacesSeen, place_at}
use Rattle.run_scripts.specs.Runs.{RunsSeen, AreRunsOf, script_of}
use Rattle.line_marks.proofs.ActionsFollow.{bare_is}
use Rattle.line_marks.proofs.Bounds.{has_space}
use Rattle.line_marks.proofs.DueIs.{call_is, due_on}
use Rattle.line_marks.proofs.Known.{linked_known}
use Rattle.line_marks.specs.Actions.{actions_of}
use Rattle.line_marks.proofs.RunsAre.{handler_due_is, thread_due_is}
use Rattle.line_marks.proofs.UpFollow.{enabled_is_up, linked_is_up}
use Rattle.line_marks.specs.Calls.{ask_edge_by}
use Rattle.line_marks.specs.DriversDue.{driver_due}
use Rattle.line_marks.specs.Runs.{makes_calls_at, due_in_run_at}
use Rattle.line_marks.specs.Threads.{thread_of, threads_of}
use Rattle.line_marks.proofs.ScriptsFollow.{own_place, other_place}
use Rattle.line_marks.proofs.CellFollows.{is_of}
use Rattle.line_marks.proofs.ExpectedOf.{expected}
use Rattle.line_marks.proofs.StateFollows.{state_follows, state_first}
use Rattle.line_marks.specs.Expected.{IsExpected}
use Rattle.line_state.specs.Seen.{FixedSeen, HasCall, IsAimOf, IsScripted, LineStateSeen, runs_seen}
use Rattle.irq_model.specs.Valid.{IsValid}
use Rattle.irq_model.specs.ValidRuns.{HasValidRuns}
use Rattle.line_marks.specs.Line.{IsLine}
use Rattle.line_marks.specs.Next.{due_call_in}
use Rattle.line_marks.specs.Scripts.{IsAt, place_after, within_after}
use Rattle.line_marks.specs.State.{StateSeen, IsOf, first_state, state_of, state_after}
use Rattle.line_state.proofs.Asked.{can_make}
use Rattle.line_state.specs.Entries.{entry_by, cpu_entry, thread_entry, call_made, CanMake, IsActivated}
use Rattle.line_state.specs.Running.{IsAboutCpu, IsAboutThread, MayCall}
use Rattle.line_state.specs.declared.due.CpuStep.{CpuStep}
use Rattle.line_state.specs.declared.due.CpuStep.TheVariants as cpus
use Rattle.line_state.specs.declared.due.ThreadStep.{ThreadStep}
use Rattle.line_state.specs.declared.due.ThreadStep.TheVariants as thread_steps
use Rattle.line_state.specs.declared.due.DueStep.{DueStep}
use Rattle.line_core.specs.Moves.{IsMoved, Moves, CanMove, ends_call}
use Rattle.line_core.specs.Running.{IsOfWork}

pub newest : (h : List Entry) (e : Entry) → reverse (h ++ e ∷ []) ≡ e ∷ reverse h
newest h e = reverse-append h (e ∷ [])

module _ (def : LineDef) (h : List Entry) (s : StateSeen) (scripts after : List (DriverNo × RowSeen)) (runs : RunsSeen) (e : Entry)
    (is : IsLine def h s scripts runs) where
  abbrev past : List Entry
  past = reverse h

  abbrev IsAtAfter : DriverNo → Type 0
  IsAtAfter r = IsAt def (e ∷ reverse h) r (place_of after r) (within_of after r)

  by_whom : (a : Actor) → actor_of e ≡ a → (r : DriverNo) → is_by_driver r e ≡ is_driver r a
  by_whom a who r = ap (is_driver r) who

  -- a driver whose place doesn't move
  stays : (r : DriverNo) → is_by_driver r e ≡ false → place_of after r ≡ place_of scripts r → within_of after r ≡ within_of scripts r → IsAtAfter r
  stays r other p k =
      subst (λ (n : ℕ). IsAt def (e ∷ reverse h) r (place_of after r) n) (sym k)
      (subst (λ (n : ℕ). IsAt def (e ∷ reverse h) r n (within_of scripts r)) (sym p)
      (other_place def (reverse h) e r (place_of scripts r) (within_of scripts r) other (is.at r)))

  -- the call of the driver whose entry is due
  record HasDueCall (w : DriverNo) : Type 0 where
    call : Call
    count : ℕ
    due : due_call def w (reverse h) ≡ Some (call, count)
    here : call_of scripts w ≡ Some call

  has_call : (w : DriverNo) → next def h (actors.Driver w) ≡ Some e → HasDueCall w
  has_call w due = by_call (call_of scripts w) refl
    where
      told : due_call def w (reverse h) ≡ due_call_in scripts w
      told = call_is def (reverse h) scripts is.calls is.at w

      by_call : (o : Option Call) → call_of scripts w ≡ o → HasDueCall w
      by_call None none = absurd (none-some e (sym (ap (next_of_driver def w (reverse h))
          (told ∙ ap (λ (x : Option Call). with_count x (within_of scripts w)) none)) ∙ due))
      by_call (Some c) there = record {
        call = c;
        count = within_of scripts w;
        due = told
            ∙ ap (λ (x : Option Call). with_count x (within_of scripts w)) there;
        here = there;
      }

  few_entries : (c : Call) (es : List Entry) → entries_of_call c es ≤ 3
  few_entries (calls.Free d) es = by_found (begins_not_there es)
    where
      by_found : (b : Bool) → cond b 1 3 ≤ 3
      by_found true = omega arith
      by_found false = omega arith
  few_entries (calls.Ask d) es = omega arith
  few_entries (calls.Request d flags) es = omega arith
  few_entries calls.Disable es = omega arith
  few_entries calls.DisableNosync es = omega arith
  few_entries calls.Enable es = omega arith
  few_entries calls.Sync es = omega arith
  few_entries (calls.Affinity mask) es = omega arith
  few_entries (calls.Moment at) es = omega arith
  few_entries calls.SyncHard es = omega arith
  few_entries calls.DisableHard es = omega arith
  few_entries (calls.Wake d) es = omega arith
  few_entries (calls.Quiet d) es = omega arith
  few_entries (calls.Arm d) es = omega arith
  few_entries (calls.Serve d) es = omega arith

  pub can_move : (a : Actor) → next def h a ≡ Some e → CanMove a scripts
  can_move (actors.Thread d) due = tt
  can_move (actors.Cpu c) due = tt
  can_move (actors.Driver w) due =
      let k = has_call w due in
      let cs = calls_by w def.calls in
      let es = entries_by w (reverse h) in
      let there : slice_get cs (place_of scripts w) ≡ Some k.call = ap (λ (xs : List Call). slice_get xs (place_of scripts w)) (sym (is.calls w)) ∙ k.here in
      let less = laid_within cs es (place_of scripts w) (within_of scripts w) k.call (is.at w) there in
      let few = few_entries k.call (part_at cs es (place_of scripts w)) in
      (ap is_some k.here, omega (arith, less, few))

  moved : (w : DriverNo) → next def h (actors.Driver w) ≡ Some e → actor_of e ≡ actors.Driver w
      → IsMoved w (ends_call (call_of scripts w) e) scripts after → (r : DriverNo) → IsAtAfter r
  moved w due who m r = by_same (same_driver r w) refl
    where
      own : IsAtAfter w
      own =
          let k = has_call w due in
          let ends : ends_call (call_of scripts w) e ≡ completes k.call e = ap (λ (o : Option Call). ends_call o e) k.here in
          let at = own_place def (reverse h) e w (place_of scripts w) (within_of scripts w) k.call k.count due
          (by_whom (actors.Driver w) who w ∙ same_self_driver w) k.due (is.at w) in
          subst (λ (n : ℕ). IsAt def (e ∷ reverse h) w (place_of after w) n) (sym (m.within ∙ ap (λ b. within_after b (within_of scripts w)) ends))
          (subst (λ (n : ℕ). IsAt def (e ∷ reverse h) w n (within_after (completes k.call e) (within_of scripts w)))
          (sym (m.place ∙ ap (λ b. place_after b (place_of scripts w)) ends)) at)

      by_same : (b : Bool) → same_driver r w ≡ b → IsAtAfter r
      by_same true same = subst (λ (x : DriverNo). IsAtAfter x) (sym (driver_from_same r w same)) own
      by_same false other = stays r (by_whom (actors.Driver w) who r ∙ other) (m.other_places r other) (m.other_withins r other)

  unmoved : ((r : DriverNo) → is_by_driver r e ≡ false) → after ≡ scripts → (r : DriverNo) → IsAtAfter r
  unmoved none same r = stays r (none r) (ap (λ (x : List (DriverNo × RowSeen)). place_of x r) same)
      (ap (λ (x : List (DriverNo × RowSeen)). within_of x r) same)

  at_after : (a : Actor) → next def h a ≡ Some e → actor_of e ≡ a → Moves a e scripts after → (r : DriverNo) → IsAtAfter r
  at_after (actors.Thread d) due who m = unmoved (by_whom (actors.Thread d) who) m
  at_after (actors.Cpu c) due who m = unmoved (by_whom (actors.Cpu c) who) m
  at_after (actors.Driver w) due who m = moved w due who m

  calls_after : (a : Actor) → Moves a e scripts after → (r : DriverNo) → calls_of after r ≡ calls_by r def.calls
  calls_after (actors.Thread d) m r = ap (λ (x : List (DriverNo × RowSeen)). calls_of x r) m ∙ is.calls r
  calls_after (actors.Cpu c) m r = ap (λ (x : List (DriverNo × RowSeen)). calls_of x r) m ∙ is.calls r
  calls_after (actors.Driver w) m r = m.calls r ∙ is.calls r

  -- the entry is due of its actor
  pub due_past : (a : Actor) → next def h a ≡ Some e → IsDue def e (reverse h)
  due_past a due = ap (next_past def (reverse h)) (due_is_own def h a e due) ∙ due

  pub line_more : (a : Actor) (now : RunsSeen) → next def h a ≡ Some e → length h < def.log → Moves a e scripts after
      → AreRunsOf def now → now.places ≡ (state_after def e s).places → IsLine def (h ++ e ∷ []) (state_after def e s) after now
  line_more a now due below m scripted places =
      let legal : IsLegalPast def (e ∷ reverse h) = (due_past a due, is.legal) in
      let long : length (h ++ e ∷ []) ≡ length h + 1 = length-append h (e ∷ []) in
      record {
        valid = is.valid;
        valid_runs = is.valid_runs;
        legal = subst (λ (x : List Entry). IsLegalPast def x) (sym (newest h e)) legal;
        state = ap (state_after def e) is.state ∙ (sym (state_follows def e (reverse h) is.valid legal) ∙ ap (state_of def) (sym (newest h e)));
        calls = calls_after a m;
        at = λ r. subst (λ (x : List Entry). IsAt def x r (place_of after r) (within_of after r)) (sym (newest h e))
            (at_after a due (due_is_own def h a e due) m r);
        scripted = scripted;
        places = places;
        room = omega (arith, long, below);
      }

-- ---- what the state's functions ask for

without_count : (o : Option Call) (n : ℕ) → option_map (λ (x : Call × ℕ). x.0) (with_count o n) ≡ o
without_count None n = refl
without_count (Some c) n = refl

-- the handler at work is one of a device of the line
pub working_named : (def : LineDef) (past : List Entry) (d : DevNo) → IsValid def → IsLegalPast def past → at_work past ≡ Some d → has_device def d ≡ true
working_named def past d valid legal is =
    let k = kept def past valid legal in
    there_named def past k d (called_there def past k d (k.runs.working d is).0)

-- the state and the drivers' places that stand beside a history
pub record Beside (def : LineDef) (h : List Entry) : Type 0 where
  pub seen : LineStateSeen
  pub scripts : List (DriverNo × RowSeen)
  pub is : IsLine def h seen.state scripts (runs_seen seen)

module _ (def : LineDef) (h : List Entry) (b : Beside def h) where
  pub line_is_of : IsOf def b.seen.state
  line_is_of = subst (λ (x : StateSeen). IsOf def x) (sym b.is.state) (is_of def (reverse h) b.is.valid b.is.legal)

  pub line_aim_of : IsAimOf def b.seen.state.aim
  line_aim_of = record { cpus = ap (λ (x : StateSeen). x.aim.cpus) b.is.state; later = ap (λ (x : StateSeen). x.aim.later) b.is.state }

  few : length (reverse h) ≤ def.log
  few = let long : length (reverse h) ≡ length h = length-reverse h in omega (arith, long, b.is.room)

  line_expects : (a : Actor) (e : Entry) → next def h a ≡ Some e → IsExpected def e b.seen.state
  line_expects a e due =
      subst (λ (x : StateSeen). IsExpected def e x) (sym b.is.state)
      (expected def (reverse h) b.is.valid b.is.legal few e (due_past def h b.seen.state b.scripts b.scripts (runs_seen b.seen) e b.is a due))

  pub line_can : (a : Actor) (step : DueStep) → next def h a ≡ Some (entry_by def b.seen.state step) → CanMake def step b.seen.state
  line_can a step due = can_make def b.seen.state step (line_expects a (entry_by def b.seen.state step) due)

  pub line_can_move : (a : Actor) (e : Entry) → next def h a ≡ Some e → CanMove a b.scripts
  line_can_move a e due = can_move def h b.seen.state b.scripts b.scripts (runs_seen b.seen) e b.is a due

  -- what isn't disabled, and what is linked, is active
  pub line_activated : IsActivated b.seen.state
  line_activated = subst IsActivated (sym b.is.state) (record {
    enabled = enabled_is_up def (reverse h) b.is.valid b.is.legal;
    linked = λ some. linked_is_up def (reverse h) b.is.valid b.is.legal (sym (bare_is def (reverse h) b.is.valid b.is.legal) ∙ some);
  })

  -- what is linked, handlers at work and threads are of devices of the line
  linked_there : (d : DevNo) → has d (actions_of (reverse h)) ≡ true → has_device def d ≡ true
  linked_there d is =
      there_named def (reverse h) (kept def (reverse h) b.is.valid b.is.legal) d
      (ap (λ x. x || is_being_freed (reverse h) d) (linked_known def (reverse h) d b.is.valid b.is.legal ∙ is))

  working_there : (d : DevNo) → at_work (reverse h) ≡ Some d → has_device def d ≡ true
  working_there d is = working_named def (reverse h) d b.is.valid b.is.legal is

  thread_there : (d : DevNo) (r : ThreadRow) → at (threads_of def (reverse h)) d ≡ Some r → has_device def d ≡ true
  thread_there d r is = by_test (has_device def d) refl
    where
      by_test : (x : Bool) → has_device def d ≡ x → has_device def d ≡ true
      by_test true there = there
      by_test false gone = absurd (none-some r (sym (at_none (thread_of (reverse h)) def.devices d gone) ∙ is))

  pub line_scripted : IsScripted def b.seen
  line_scripted = record {
    runs = b.is.scripted;
    linked = λ d is. linked_there d (sym (ap (λ (x : StateSeen). has d x.list.actions) b.is.state) ∙ is);
    working = λ d is. working_there d (sym (ap (λ (x : StateSeen). x.round.working) b.is.state) ∙ is);
    threads = λ d r is. thread_there d r (ap (λ (x : StateSeen). at x.threads d) (sym b.is.state) ∙ is);
    within = λ d part. subst (λ (x : StateSeen). (place_at x.places d part).within + 1 < 2 ^ 32) (sym b.is.state)
        ((has_space def (reverse h) b.is.valid few).runs d part);
  }

  -- ---- the calls of runs

  if_makes : {A : Type 0} (x : Bool) (o : Option A) (y : A) → cond x o None ≡ Some y → o ≡ Some y
  if_makes true o y is = is
  if_makes false o y is = cc

  counted : (o : Option Call) (n : ℕ) (y : Call × ℕ) → with_count o n ≡ Some y → is_some o ≡ true
  counted None n y is = cc
  counted (Some c) n y is = refl

  -- the call that is due of a run is there
  call_left : (d : DevNo) (part : Part) (due : Call × ℕ) → has_device def d ≡ true
      → due_in_run_at def (state_of def (reverse h)) part d ≡ Some due → HasCall b.seen part d
  call_left d part due there is =
      let places = ap (λ (x : StateSeen). x.places) b.is.state in
      let own : slice_get (run_script def d part) (place_at (state_of def (reverse h)).places d part).place
      ≡ slice_get (script_of (runs_seen b.seen) d part) (place_at b.seen.state.places d part).place =
      ap (λ (cs : List Call). slice_get cs (place_at (state_of def (reverse h)).places d part).place) (sym (b.is.scripted.calls d part there))
      ∙ ap (λ (p : PlacesSeen). slice_get (script_of (runs_seen b.seen) d part) (place_at p d part).place) (sym places) in
      let some = counted (slice_get (run_script def d part) (place_at (state_of def (reverse h)).places d part).place)
      (place_at (state_of def (reverse h)).places d part).within due
      (if_makes (makes_calls_at def (state_of def (reverse h)) part d) _ due is) in
      ap is_some (sym own) ∙ some

  pub line_about_cpu : (c : CpuNo) (step : CpuStep) → IsOfWork (reverse h) step
      → next def h (actors.Cpu c) ≡ Some (cpu_entry def b.seen.state c step) → IsAboutCpu b.seen step
  line_about_cpu c (cpus.Call d step) work due =
      let u = handler_call_due def c (call_made def b.seen.state step) (reverse h) due in
      let same : d ≡ u.dev = same_Some d u.dev (sym work ∙ u.is_at_work) in
      let there = working_there d work in
      let is : due_in_run_at def (state_of def (reverse h)) parts.Primary d ≡ Some u.due =
      handler_due_is def (reverse h) d there work ∙ (ap (λ (x : DevNo). due_in_run def parts.Primary x (reverse h)) same ∙ u.is_due) in
      (ap (λ (x : StateSeen). x.round.working) b.is.state ∙ work, call_left d parts.Primary u.due there is)
  line_about_cpu c (cpus.Begin d) work due =
      ap (λ (x : StateSeen). has d x.list.actions) b.is.state
      ∙ (sym (linked_known def (reverse h) d b.is.valid b.is.legal)
      ∙ (begun_is_linked def (reverse h) d (begin_due def c d (reverse h) due).first).0)
  line_about_cpu c (cpus.Return d) work due =
      ap (λ (x : StateSeen). x.round.working) b.is.state ∙ (return_due def c d _ _ (reverse h) due).is_at_work
  line_about_cpu c step work due = tt

  may_call : (d : DevNo) (step : ThreadStep)
      → next def h (actors.Thread d) ≡ Some (thread_entry def b.seen.state d step) → MayCall b.seen d step
  may_call d (thread_steps.Call step) due =
      let u = thread_call_due def d (call_made def b.seen.state step) (reverse h) due in
      let there = device_there def d (reverse h) _ due in
      call_left d parts.Thread u.due there (thread_due_is def (reverse h) d there u.not_returned ∙ u.is_due)
  may_call d step due = tt

  pub line_about_thread : (d : DevNo) (step : ThreadStep)
      → next def h (actors.Thread d) ≡ Some (thread_entry def b.seen.state d step) → IsAboutThread b.seen d step
  line_about_thread d step due = (
    ap (λ (x : StateSeen). is_some (at x.threads d)) b.is.state
        ∙ ap is_some (at_device (thread_of (reverse h)) def.devices d (device_there def d (reverse h) _ due)),
    may_call d step due,
  )

  -- who is at work, by the state
  line_of_work : (step : CpuStep) → IsAboutCpu b.seen step → IsOfWork (reverse h) step
  line_of_work (cpus.Call d step) about = sym (ap (λ (x : StateSeen). x.round.working) b.is.state) ∙ about.0
  line_of_work step about = tt

  pub some_of_work : (o : Option CpuStep) → IfSome o (IsAboutCpu b.seen) → IfSome o (IsOfWork (reverse h))
  some_of_work None about = about
  some_of_work (Some step) about = line_of_work step about

  -- the driver's due call, by the history and by the driver's place
  pub due_call_is : (r : DriverNo) → due_call def r (reverse h) ≡ due_call_in b.scripts r
  due_call_is r = call_is def (reverse h) b.scripts b.is.calls b.is.at r

  pub call_there : (r : DriverNo) (c : Call) → option_map (λ (x : Call × ℕ). x.0) (due_call def r (reverse h)) ≡ Some c → call_of b.scripts r ≡ Some c
  call_there r c told =
      sym (without_count (call_of b.scripts r) (within_of b.scripts r))
      ∙ (ap (option_map (λ (x : Call × ℕ). x.0)) (sym (due_call_is r)) ∙ told)

  -- an ask is due if it is the driver's due call
  pub ask_due : (r : DriverNo) (d : DevNo) → call_of b.scripts r ≡ Some (calls.Ask d)
      → next def h (actors.Driver r) ≡ Some (by.Driver r (drivers.Ask (ask_edge_by def d b.seen.state) d))
  ask_due r d there =
      due_on def h b.seen.state b.scripts (runs_seen b.seen) (actors.Driver r) b.is
      ∙ ap (λ (o : Option Call). driver_due def b.seen.state r (with_count o (within_of b.scripts r))) there

-- ---- a driver whose place moves

-- the entry of this call, which is due, was counted
pub moves_by : (r : DriverNo) (c : Call) (e : Entry) (old new : List (DriverNo × RowSeen)) → call_of old r ≡ Some c
    → IsMoved r (completes c e) old new → IsMoved r (ends_call (call_of old r) e) old new
moves_by r c e old new there m = subst (λ (o : Option Call). IsMoved r (ends_call o e) old new) (sym there) m

-- ---- an entry that is put at the history's end

-- the entry that is due, and what it leaves
pub record IsPut (def : LineDef) (h more : List Entry) (after : LineStateSeen) (moved : List (DriverNo × RowSeen)) (e : Entry) : Type 0 where
  pub before : Beside def h
  pub who : Actor
  pub due : next def h who ≡ Some e
  pub below : length h < def.log
  pub moves : Moves who e before.scripts moved
  pub entries : more ≡ h ++ e ∷ []
  pub state : after.state ≡ state_after def e before.seen.state
  pub fixed : after.fixed ≡ before.seen.fixed

same_runs : (def : LineDef) (old new : LineStateSeen) → new.fixed ≡ old.fixed → AreRunsOf def (runs_seen old) → AreRunsOf def (runs_seen new)
same_runs def old new fixed are = record {
  calls = λ d part there. ap (λ (f : FixedSeen). group_of f.calls d part) fixed ∙ are.calls d part there;
  answers = λ d part there. ap (λ (f : FixedSeen). group_of f.answers d part) fixed ∙ are.answers d part there;
}

pub line_after : (def : LineDef) (h more : List Entry) (after : LineStateSeen) (moved : List (DriverNo × RowSeen)) (e : Entry)
    → IsPut def h more after moved e → IsLine def more after.state moved (runs_seen after)
line_after def h more after moved e p =
    subst (λ (x : List Entry). IsLine def x after.state moved (runs_seen after)) (sym p.entries)
    (subst (λ (x : StateSeen). IsLine def (h ++ e ∷ []) x moved (runs_seen after)) (sym p.state)
    (line_more def h p.before.seen.state p.before.scripts moved (runs_seen p.before.seen) e p.before.is p.who (runs_seen after) p.due p.below p.moves
    (same_runs def p.before.seen after p.fixed p.before.is.scripted) (ap (λ (x : StateSeen). x.places) p.state)))

-- ---- a new line

pub line_starts : (def : LineDef) (l : LineStateSeen) (scripts : List (DriverNo × RowSeen)) → IsValid def → HasValidRuns def
    → l.state ≡ first_state def → AreRunsOf def (runs_seen l)
    → ((r : DriverNo) → calls_of scripts r ≡ calls_by r def.calls) → ((r : DriverNo) → place_of scripts r ≡ 0) → ((r : DriverNo) → within_of scripts r ≡ 0)
    → IsLine def [] l.state scripts (runs_seen l)
line_starts def l scripts valid runs is scripted calls places withins = record {
  valid = valid;
  valid_runs = runs;
  legal = tt;
  state = is ∙ sym (state_first def);
  calls = calls;
  at = λ r. subst (λ (n : ℕ). IsAt def [] r (place_of scripts r) n) (sym (withins r))
      (subst (λ (n : ℕ). IsAt def [] r n 0) (sym (places r)) (laid_start (calls_by r def.calls)));
  scripted = scripted;
  places = refl;
  room = omega arith;
}
