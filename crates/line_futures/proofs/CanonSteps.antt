-- What an entry that is due makes of the canonical state is, again canonical, what it makes of the
-- state: of each part, and of all.
use Rattle.std.proofs.Common.{◌≡◌, ℕ, Bool, true, false, ◌||◌, ◌&&◌, cond, ltb, Option, Some, None, List, refl, sym, ap, subst, ◌∙◌}
use Rattle.irq_base.specs.Cell.{Cell}
use Rattle.irq_base.specs.declared.calls.Call.{Call}
use Rattle.irq_base.specs.declared.devices.Answer.TheVariants as answers
use Rattle.irq_base.specs.declared.devices.Part.{Part}
use Rattle.irq_base.specs.declared.devices.Part.TheVariants as parts
use Rattle.irq_base.specs.declared.entries.Entry.{Entry}
use Rattle.irq_base.specs.declared.entries.Entry.TheVariants as by
use Rattle.irq_base.specs.declared.entries.CpuEntry.TheVariants as cpus
use Rattle.irq_base.specs.declared.entries.ThreadEntry.TheVariants as threads
use Rattle.irq_base.specs.declared.entries.DriverEntry.TheVariants as drivers
use Rattle.irq_base.specs.declared.entries.CallEntry.{CallEntry}
use Rattle.irq_base.specs.declared.entries.CallEntry.TheVariants as called
use Rattle.irq_base.specs.declared.entries.UnlinkAnswer.TheVariants as unlinks
use Rattle.irq_base.specs.declared.lines.LineDef.{LineDef}
use Rattle.irq_base.specs.declared.numbers.DevNo.{DevNo}
use Rattle.irq_model.specs.Kinds.{same_dev}
use Rattle.irq_model.specs.Rounds.{begins_round}
use Rattle.irq_model.proofs.Same.{same_self, same_both}
use Rattle.device_table.specs.Rows.{change, HasOwnKeys}
use Rattle.act_list.specs.Actions.{is_bare}
use Rattle.act_list.specs.Lists.{ListSeen, after_unlink}
use Rattle.act_thread.specs.Steps.{may_return, is_returned, may_end, woken_row, begun_row, returned_row, finished_row, done_row}
use Rattle.act_thread.specs.Threads.{called_at, threads_by_call, threads_after}
use Rattle.act_thread.specs.declared.rows.Stage.TheVariants as stages
use Rattle.act_thread.specs.declared.rows.ThreadRow.{ThreadRow}
use Rattle.ask_counts.specs.Facts.{facts_at}
use Rattle.ask_counts.specs.Rows.{asked, called as handler_called, begun, served, emptied, turned_off, turned_on}
use Rattle.ask_counts.specs.declared.rows.AskRow.{AskRow}
use Rattle.desc_state.specs.Desc.{DescSeen}
use Rattle.run_scripts.specs.Places.{PlacesSeen, first_place, advanced, handler_begun, thread_begun, placed, row_advanced, after_call}
use Rattle.run_scripts.specs.declared.rows.RunPlace.{RunPlace}
use Rattle.run_scripts.specs.declared.rows.RunRow.{RunRow}
use Rattle.spurious.specs.Seen.{CountsSeen}
use Rattle.line_marks.specs.Actions.{list_after}
use Rattle.line_marks.specs.Asks.{asks_by_call, asks_after}
use Rattle.line_marks.specs.Counts.{tally_after}
use Rattle.line_marks.specs.Desc.{desc_after}
use Rattle.line_marks.specs.Facts.{serves_in}
use Rattle.line_marks.specs.Places.{answer_count, call_at, completes_some, called_in, called_at_work, places_after}
use Rattle.line_marks.specs.Rounds.{RoundSeen, round_after}
use Rattle.line_marks.specs.State.{StateSeen, state_after, driven_by, high_in}
use Rattle.line_futures.specs.Canon.{in_flow, canon_list, is_working, is_thread_working, is_serving, serves_at, each_row}
use Rattle.line_futures.specs.Canon.{canon_row, canon_asks, canon_run, canon_places, canon_round, canon}
use Rattle.line_futures.specs.Made.{IsMade, MayFollow}
use Rattle.line_futures.proofs.Actions.{none_same, less_same}
use Rattle.line_futures.proofs.AsksAfter.{Lower, row_lower, serving_lower, high_same}
use Rattle.line_futures.proofs.AsksAfter.{working_lower, other_lower, AfterSame, row_asked, row_emptied, row_off, row_on, row_called, row_returned}
use Rattle.line_futures.proofs.AsksAfter.{row_begun, row_thread_returned}
use Rattle.line_futures.proofs.CanonAfter.{flow_after, flow_stays, list_by, begun_lower, by_round, linked}
use Rattle.line_futures.proofs.CanonAfter.{in_flow_begins, round_same, canon_tally, as_before, served_same}
use Rattle.line_futures.proofs.CanonAfter.{linked_tally, ended_tally}
use Rattle.line_futures.proofs.EachRow.{all_same, change_same}
use Rattle.line_futures.proofs.RunsAfter.{AfterRun, run_lower, run_placed, run_advanced, run_begun, run_thread_begun, call_same}

-- ---- a thread's run before a change of its row

woken_low : (oneshot : Bool) (r : ThreadRow) → Lower (may_return (woken_row oneshot r)) (may_return r)
woken_low oneshot r = by_test r.woken
  where
    by_test : (b : Bool) → Lower (may_return (cond b r (record r { woken = true; held = r.held || oneshot }))) (may_return r)
    by_test true = λ i. i
    by_test false = λ i. i

returned_low : (r : ThreadRow) → Lower (may_return (returned_row r)) (may_return r)
returned_low r = by_test (may_return r) refl
  where
    by_test : (b : Bool) → may_return r ≡ b → Lower (may_return (cond b (record r { stage = stages.Returned }) r)) (may_return r)
    by_test true is = λ i. is
    by_test false is = λ i. i

finished_low : (r : ThreadRow) → Lower (may_return (finished_row r)) (may_return r)
finished_low r = by_test (is_returned r)
  where
    by_test : (b : Bool) → Lower (may_return (cond b (record r { stage = stages.Finished; held = r.held && r.woken }) r)) (may_return r)
    by_test true = λ i. absurd (let x : ⊥ = cc i in x)
    by_test false = λ i. i

done_low : (oneshot : Bool) (r : ThreadRow) → Lower (may_return (done_row oneshot r)) (may_return r)
done_low oneshot r = by_test (may_end oneshot r)
  where
    by_test : (b : Bool) → Lower (may_return (cond b (record r { stage = stages.Idle }) r)) (may_return r)
    by_test true = λ i. absurd (let x : ⊥ = cc i in x)
    by_test false = λ i. i

none_low : (b old : Bool) → b ≡ false → Lower b old
none_low b old none = λ i. absurd (let x : ⊥ = cc (sym none ∙ i) in x)

module _ (def : LineDef) (s : StateSeen) where
  -- ---- the asks, and the places of the runs

  abbrev h : DevNo → Bool
  h = is_working s.round.working

  abbrev t : DevNo → Bool
  t = is_thread_working s.threads

  abbrev part : DevNo → Option Part
  part x = (facts_at s.facts x).serving

  abbrev working_after : Entry → DevNo → Bool
  working_after e = is_working (round_after def e s.round).working

  abbrev threads_work_after : Entry → DevNo → Bool
  threads_work_after e = is_thread_working (threads_after s.desc.oneshot e s.threads)

  abbrev serves_after : Entry → DevNo → Bool
  serves_after e x = is_serving (facts_at s.facts x).serving (working_after e x) (threads_work_after e x)

  abbrev old_row : DevNo → AskRow → AskRow
  old_row x = canon_row (serves_at s x) (is_working s.round.working x) (is_thread_working s.threads x)

  abbrev row_with : (DevNo → Bool) → (DevNo → Bool) → DevNo → AskRow → AskRow
  row_with h' t' x = canon_row (is_serving (facts_at s.facts x).serving (h' x) (t' x)) (h' x) (t' x)

  abbrev old_run : DevNo → RunRow → RunRow
  old_run x = canon_run (is_working s.round.working x) (is_thread_working s.threads x)

  abbrev run_with : (DevNo → Bool) → (DevNo → Bool) → DevNo → RunRow → RunRow
  run_with h' t' x = canon_run (h' x) (t' x)

  abbrev SameAsks : Entry → Type 0
  SameAsks e =
      canon_asks (serves_after e) (working_after e) (threads_work_after e)
      (asks_after s.facts e (canon_asks (serves_at s) (is_working s.round.working) (is_thread_working s.threads)
      s.asks))
      ≡ canon_asks (serves_after e) (working_after e) (threads_work_after e) (asks_after s.facts e s.asks)

  -- a row whose runs are at work only if they were
  lower : (x : DevNo) (h' t' : Bool) → Lower h' (h x) → Lower t' (t x) → (r : AskRow)
      → canon_row (is_serving (part x) h' t') h' t' (canon_row (serves_at s x) (h x) (t x) r) ≡ canon_row (is_serving (part x) h' t') h' t' r
  lower x h' t' lh lt r = row_lower (serves_at s x) (h x) (t x) (is_serving (part x) h' t') h' t' r (serving_lower (part x) (h x) (t x) h' t' lh lt) lh lt

  module _ (h' t' : DevNo → Bool) where
    -- an entry that leaves the asks alone
    left_alone : ((x : DevNo) → Lower (h' x) (h x)) → ((x : DevNo) → Lower (t' x) (t x))
        → each_row (row_with h' t') (each_row old_row s.asks) ≡ each_row (row_with h' t') s.asks
    left_alone lh lt = all_same old_row (row_with h' t') s.asks (λ x r. lower x (h' x) (t' x) (lh x) (lt x) r)

    -- an entry that changes one device's
    changed_one : (f : AskRow → AskRow) (d : DevNo) → HasOwnKeys s.asks
        → ((x : DevNo) → same_dev d x ≡ false → Lower (h' x) (h x))
        → ((x : DevNo) → same_dev d x ≡ false → Lower (t' x) (t x))
        → ((r : AskRow) → AfterSame (part d) (h d) (t d) (h' d) (t' d) r f)
        → each_row (row_with h' t') (change f (each_row old_row s.asks) d) ≡ each_row (row_with h' t') (change f s.asks d)
    changed_one f d own lh lt here =
        change_same old_row (row_with h' t') f d s.asks own (λ x ne r. lower x (h' x) (t' x) (lh x ne) (lt x ne) r) here

    runs_alone : ((x : DevNo) → Lower (h' x) (h x)) → ((x : DevNo) → Lower (t' x) (t x))
        → each_row (run_with h' t') (each_row old_run s.places.rows) ≡ each_row (run_with h' t') s.places.rows
    runs_alone lh lt = all_same old_run (run_with h' t') s.places.rows (λ x r. run_lower (h x) (t x) (h' x) (t' x) r (lh x) (lt x))

    run_changed : (f : RunRow → RunRow) (d : DevNo) → HasOwnKeys s.places.rows
        → ((x : DevNo) → same_dev d x ≡ false → Lower (h' x) (h x))
        → ((x : DevNo) → same_dev d x ≡ false → Lower (t' x) (t x))
        → ((r : RunRow) → AfterRun (h d) (t d) (h' d) (t' d) r f)
        → each_row (run_with h' t') (change f (each_row old_run s.places.rows) d) ≡ each_row (run_with h' t') (change f s.places.rows d)
    run_changed f d own lh lt here =
        change_same old_run (run_with h' t') f d s.places.rows own (λ x ne r. run_lower (h x) (t x) (h' x) (t' x) r (lh x ne) (lt x ne)) here

  called_other : (d x : DevNo) → same_dev d x ≡ false → Lower (same_dev x d) (h x)
  called_other d x ne = none_low (same_dev x d) (h x) (same_both x d ∙ ne)

  called_here : (d : DevNo) (r : AskRow) → AfterSame (part d) (h d) (t d) (same_dev d d) (t d) r (handler_called (serves_in s.facts parts.Primary d))
  called_here d r = subst (λ b. AfterSame (part d) (h d) (t d) b (t d) r (handler_called (serves_in s.facts parts.Primary d)))
      (sym (same_self d)) (row_called (part d) (h d) (t d) (t d) r (λ i. i))

  is_at_work : (d : DevNo) → s.round.working ≡ Some d → h d ≡ true
  is_at_work d is = ap (λ (w : Option DevNo). is_working w d) is ∙ same_self d

  abbrev returned : DevNo → ℕ → AskRow → AskRow
  returned d n = served (serves_in s.facts parts.Primary d && ltb 0 n)

  returned_here : (d : DevNo) (n : ℕ) (t' : Bool) → Lower t' (t d) → s.round.working ≡ Some d → (r : AskRow)
      → AfterSame (part d) (h d) (t d) false t' r (returned d n)
  returned_here d n t' low is r = subst (λ b. AfterSame (part d) b (t d) false t' r (returned d n))
      (sym (is_at_work d is)) (row_returned (part d) (t d) t' (ltb 0 n) r low)

  abbrev thread_returned : DevNo → ℕ → AskRow → AskRow
  thread_returned d n = served (serves_in s.facts parts.Thread d && ltb 0 n)

  thread_returned_here : (d : DevNo) (n : ℕ) (t' : Bool) → t d ≡ true → (r : AskRow)
      → AfterSame (part d) (h d) (t d) (h d) t' r (thread_returned d n)
  thread_returned_here d n t' is r = subst (λ b. AfterSame (part d) (h d) b (h d) t' r (thread_returned d n))
      (sym is) (row_thread_returned (part d) (h d) t' (ltb 0 n) r)

  none_works : (x : DevNo) → Lower false (h x)
  none_works x = none_low false (h x) refl

  -- a thread that is woken isn't at work by that
  woken_all : (d x : DevNo) → Lower (is_thread_working (change (woken_row s.desc.oneshot) s.threads d) x) (t x)
  woken_all d x = working_lower (woken_row s.desc.oneshot) d x s.threads (woken_low s.desc.oneshot)

  call_woken : (woken : Bool) (d x : DevNo) → Lower (is_thread_working (called_at woken s.desc.oneshot s.threads d) x) (t x)
  call_woken true d x = woken_all d x
  call_woken false d x = λ i. i

  -- what a call leaves of the threads
  abbrev called_threads : CallEntry → DevNo → Bool
  called_threads call = is_thread_working (threads_by_call s.desc.oneshot call s.threads)

  by_call_low : (call : CallEntry) (x : DevNo) → Lower (called_threads call x) (t x)
  by_call_low (called.Wake woken d) x = call_woken woken d x
  by_call_low called.Disable x = λ i. i
  by_call_low called.HardClear x = λ i. i
  by_call_low called.Synced x = λ i. i
  by_call_low (called.Enable answer) x = λ i. i
  by_call_low (called.Unlink answer d) x = λ i. i
  by_call_low (called.Freed d) x = λ i. i
  by_call_low (called.Quiet d) x = λ i. i
  by_call_low (called.Arm edge d) x = λ i. i
  by_call_low (called.Serve d n) x = λ i. i

  call_asks : (call : CallEntry) → HasOwnKeys s.asks
      → each_row (row_with h (called_threads call)) (asks_by_call call (each_row old_row s.asks))
      ≡ each_row (row_with h (called_threads call)) (asks_by_call call s.asks)
  call_asks (called.Serve d n) own = changed_one h t emptied d own (λ x ne i. i) (λ x ne i. i)
      (λ r. row_emptied (part d) (h d) (t d) (h d) (t d) r (λ i. i) (λ i. i))
  call_asks (called.Quiet d) own = changed_one h t turned_off d own (λ x ne i. i) (λ x ne i. i)
      (λ r. row_off (part d) (h d) (t d) (h d) (t d) r (λ i. i) (λ i. i))
  call_asks (called.Arm edge d) own = changed_one h t turned_on d own (λ x ne i. i) (λ x ne i. i)
      (λ r. row_on (part d) (h d) (t d) (h d) (t d) r (λ i. i) (λ i. i))
  call_asks (called.Wake woken d) own = left_alone h (called_threads (called.Wake woken d)) (λ x i. i) (λ x. call_woken woken d x)
  call_asks called.Disable own = left_alone h t (λ x i. i) (λ x i. i)
  call_asks called.HardClear own = left_alone h t (λ x i. i) (λ x i. i)
  call_asks called.Synced own = left_alone h t (λ x i. i) (λ x i. i)
  call_asks (called.Enable answer) own = left_alone h t (λ x i. i) (λ x i. i)
  call_asks (called.Unlink answer d) own = left_alone h t (λ x i. i) (λ x i. i)
  call_asks (called.Freed d) own = left_alone h t (λ x i. i) (λ x i. i)

  pub asks_same : (e : Entry) → IsMade e s → HasOwnKeys s.asks → SameAsks e
  asks_same (by.Driver driver (drivers.Ask edge d)) made own = changed_one h t asked d own (λ x ne i. i) (λ x ne i. i)
      (λ r. row_asked (part d) (h d) (t d) (h d) (t d) r (λ i. i) (λ i. i))
  asks_same (by.Cpu cpu (cpus.Begin d)) made own = changed_one (is_working (Some d)) t (handler_called (serves_in s.facts parts.Primary d)) d own
      (called_other d) (λ x ne i. i) (called_here d)
  asks_same (by.Cpu cpu (cpus.Return answers.Nothing d n)) made own
      = changed_one (is_working None) t (returned d n) d own (λ x ne. none_works x) (λ x ne i. i)
      (returned_here d n (t d) (λ i. i) made)
  asks_same (by.Cpu cpu (cpus.Return answers.Handled d n)) made own
      = changed_one (is_working None) t (returned d n) d own (λ x ne. none_works x) (λ x ne i. i)
      (returned_here d n (t d) (λ i. i) made)
  asks_same (by.Cpu cpu (cpus.Return answers.Wake d n)) made own =
      changed_one (is_working None) (is_thread_working (change (woken_row s.desc.oneshot) s.threads d)) (returned d n) d own
      (λ x ne. none_works x) (λ x ne. woken_all d x)
      (returned_here d n (is_thread_working (change (woken_row s.desc.oneshot) s.threads d) d) (woken_all d d) made)
  asks_same (by.Thread d threads.Begin) made own =
      changed_one h (is_thread_working (change begun_row s.threads d)) (begun (serves_in s.facts parts.Thread d)) d own
      (λ x ne i. i) (λ x ne. other_lower begun_row d x s.threads ne)
      (λ r. row_begun (part d) (h d) (t d) (is_thread_working (change begun_row s.threads d) d) r)
  asks_same (by.Thread d (threads.Return handled n)) made own =
      changed_one h (is_thread_working (change returned_row s.threads d)) (thread_returned d n) d own
      (λ x ne i. i) (λ x ne. other_lower returned_row d x s.threads ne)
      (thread_returned_here d n (is_thread_working (change returned_row s.threads d) d) made)
  asks_same (by.Thread d (threads.Finish kept unmask)) made own = left_alone h (is_thread_working (change finished_row s.threads d))
      (λ x i. i) (λ x. working_lower finished_row d x s.threads finished_low)
  asks_same (by.Thread d threads.Done) made own = left_alone h (is_thread_working (change (done_row s.desc.oneshot) s.threads d))
      (λ x i. i) (λ x. working_lower (done_row s.desc.oneshot) d x s.threads (done_low s.desc.oneshot))
  asks_same (by.CpuCall cpu call) made own = call_asks call own
  asks_same (by.ThreadCall own_dev call) made own = call_asks call own
  asks_same (by.DriverCall driver call) made own = call_asks call own
  asks_same e made own = left_alone h t (λ x i. i) (λ x i. i)

  -- ---- the places

  abbrev new_places : Entry → PlacesSeen → PlacesSeen
  new_places e p = canon_places (working_after e) (threads_work_after e) p

  abbrev SamePlaces : Entry → Type 0
  SamePlaces e = new_places e (places_after def s.round.working e (canon_places (is_working s.round.working) (is_thread_working s.threads) s.places))
      ≡ new_places e (places_after def s.round.working e s.places)

  abbrev placed_by : RunPlace → List (DevNo × RunRow) → PlacesSeen
  placed_by w rows = record { work = w; rows = rows }

  -- a handler's entry moves its own place alone
  work_call : (t' : DevNo → Bool) (o : Option DevNo) (e : Entry) → ((x : DevNo) → Lower (t' x) (t x))
      → canon_places h t' (called_at_work def o e (canon_places h t s.places)) ≡ canon_places h t' (called_at_work def o e s.places)
  work_call t' None e low = ap (placed_by s.places.work) (runs_alone h t' (λ x i. i) low)
  work_call t' (Some d) e low =
      ap (placed_by (advanced (completes_some (call_at def s.places parts.Primary d) e) s.places.work)) (runs_alone h t' (λ x i. i) low)

  thread_call : (d : DevNo) (e : Entry) (t' : DevNo → Bool) → HasOwnKeys s.places.rows → ((x : DevNo) → Lower (t' x) (t x))
      → canon_places h t' (called_in def parts.Thread d e (canon_places h t s.places)) ≡ canon_places h t' (called_in def parts.Thread d e s.places)
  thread_call d e t' own low =
      let completes = completes_some (call_at def s.places parts.Thread d) e in
      ap (λ (c : Option Call). canon_places h t' (after_call (completes_some c e) d parts.Thread (canon_places h t s.places)))
      (call_same h t s.places d def parts.Thread)
      ∙ ap (placed_by s.places.work) (run_changed h t' (row_advanced completes) d own (λ x ne i. i) (λ x ne. low x)
      (λ r. run_advanced (h d) (t d) (h d) (t' d) r (λ i. i) (low d) completes))

  begun_here : (d : DevNo) (r : RunRow) (count : ℕ) → AfterRun (h d) (t d) (same_dev d d) (t d) r (handler_begun count)
  begun_here d r count = subst (λ b. AfterRun (h d) (t d) b (t d) r (handler_begun count))
      (sym (same_self d)) (run_begun (h d) (t d) (t d) r count (λ i. i))

  pub places_same : (e : Entry) → HasOwnKeys s.places.rows → SamePlaces e
  places_same (by.Cpu cpu (cpus.Begin d)) own =
      ap (placed_by first_place) (run_changed (is_working (Some d)) t (handler_begun (answer_count def parts.Primary d)) d own
      (called_other d) (λ x ne i. i) (λ r. begun_here d r (answer_count def parts.Primary d)))
  places_same (by.Cpu cpu (cpus.Return answers.Nothing d n)) own = ap (placed_by first_place) (runs_alone (is_working None) t none_works (λ x i. i))
  places_same (by.Cpu cpu (cpus.Return answers.Handled d n)) own = ap (placed_by first_place) (runs_alone (is_working None) t none_works (λ x i. i))
  places_same (by.Cpu cpu (cpus.Return answers.Wake d n)) own =
      ap (placed_by first_place) (runs_alone (is_working None) (is_thread_working (change (woken_row s.desc.oneshot) s.threads d)) none_works (woken_all d))
  places_same (by.Thread d threads.Begin) own =
      ap (placed_by s.places.work) (run_changed h (is_thread_working (change begun_row s.threads d)) (thread_begun (answer_count def parts.Thread d)) d own
      (λ x ne i. i) (λ x ne. other_lower begun_row d x s.threads ne)
      (λ r. run_thread_begun (h d) (t d) (is_thread_working (change begun_row s.threads d) d) r (answer_count def parts.Thread d)))
  places_same (by.Thread d (threads.Return handled n)) own =
      ap (placed_by s.places.work) (run_changed h (is_thread_working (change returned_row s.threads d)) (placed first_place) d own
      (λ x ne i. i) (λ x ne. other_lower returned_row d x s.threads ne)
      (λ r. run_placed (h d) (t d) (h d) (is_thread_working (change returned_row s.threads d) d) r (λ i. i)
      (working_lower returned_row d d s.threads returned_low) first_place))
  places_same (by.Thread d (threads.Finish kept unmask)) own = ap (placed_by s.places.work) (runs_alone h
      (is_thread_working (change finished_row s.threads d)) (λ x i. i) (λ x. working_lower finished_row d x s.threads finished_low))
  places_same (by.Thread d threads.Done) own = ap (placed_by s.places.work) (runs_alone h
      (is_thread_working (change (done_row s.desc.oneshot) s.threads d)) (λ x i. i)
      (λ x. working_lower (done_row s.desc.oneshot) d x s.threads (done_low s.desc.oneshot)))
  places_same (by.CpuCall cpu call) own = work_call (called_threads call) s.round.working (by.CpuCall cpu call) (by_call_low call)
  places_same (by.ThreadCall d call) own = thread_call d (by.ThreadCall d call) (called_threads call) own (by_call_low call)
  places_same (by.DriverCall driver call) own = ap (placed_by s.places.work) (runs_alone h (called_threads call) (λ x i. i) (by_call_low call))
  places_same e own = ap (placed_by s.places.work) (runs_alone h t (λ x i. i) (λ x i. i))

  -- ---- the other parts

  abbrev new_flow : Entry → Bool
  new_flow e = flow_after def (is_bare s.list.actions) e s.desc

  stays : (e : Entry) → begins_round def e ≡ false → Lower (new_flow e) (in_flow s)
  stays e = flow_stays def (is_bare s.list.actions) s.desc e

  unlinked : (dev : DevNo) (new : Bool) → Lower new (in_flow s)
      → canon_list new (after_unlink dev (canon_list (in_flow s) s.list)) ≡ canon_list new (after_unlink dev s.list)
  unlinked dev new low = list_by _ _ _ _ (less_same dev s.list.actions) (begun_lower new (in_flow s) s.list.begun low)

  list_same : (e : Entry) → IsMade e s → canon_list (new_flow e) (list_after def e (canon_list (in_flow s) s.list))
      ≡ canon_list (new_flow e) (list_after def e s.list)
  list_same (by.Driver driver (drivers.Request flags answer opened dev)) made
      = linked def (new_flow (by.Driver driver (drivers.Request flags answer opened dev))) (in_flow s) s.list answer dev flags
      (stays (by.Driver driver (drivers.Request flags answer opened dev)) refl)
  list_same (by.CpuCall cpu (called.Unlink (unlinks.Unlinked last) dev)) made
      = unlinked dev (new_flow (by.CpuCall cpu (called.Unlink (unlinks.Unlinked last) dev)))
      (stays (by.CpuCall cpu (called.Unlink (unlinks.Unlinked last) dev)) refl)
  list_same (by.ThreadCall own (called.Unlink (unlinks.Unlinked last) dev)) made
      = unlinked dev (new_flow (by.ThreadCall own (called.Unlink (unlinks.Unlinked last) dev)))
      (stays (by.ThreadCall own (called.Unlink (unlinks.Unlinked last) dev)) refl)
  list_same (by.DriverCall driver (called.Unlink (unlinks.Unlinked last) dev)) made
      = unlinked dev (new_flow (by.DriverCall driver (called.Unlink (unlinks.Unlinked last) dev)))
      (stays (by.DriverCall driver (called.Unlink (unlinks.Unlinked last) dev)) refl)
  list_same (by.Cpu cpu (cpus.Begin dev)) made = in_flow_begins def (new_flow (by.Cpu cpu (cpus.Begin dev))) (in_flow s) s.list dev made
  list_same e made = by_round def (new_flow e) (in_flow s) s.list (begins_round def e) (stays e)

  tally_same : (e : Entry) → MayFollow e s → canon_tally
      (tally_after e (canon_round (in_flow s) s.round) (canon_tally s.counts))
      ≡ canon_tally (tally_after e s.round s.counts)
  tally_same (by.Thread dev (threads.Return handled n)) may = served_same (in_flow s) s.round s.counts handled may.served
  tally_same (by.Driver driver (drivers.Request flags answer opened dev)) may = linked_tally (in_flow s) s.round s.counts driver dev flags answer opened
  tally_same (by.Cpu cpu (cpus.End again unmask note)) may = ended_tally (in_flow s) s.round s.counts may.made
  tally_same e may = as_before (in_flow s) s.round s.counts

  -- ---- all of them

  abbrev made_of : StateSeen → DescSeen → Cell → ListSeen → List (DevNo × AskRow) → PlacesSeen → RoundSeen → CountsSeen → StateSeen
  made_of y d c l a p r n = record {
    desc = d;
    cell = c;
    active = false;
    aimed = 0;
    aim = y.aim;
    list = l;
    threads
        = y.threads;
    asks = a;
    facts = y.facts;
    places = p;
    round = r;
    counts = n;
    freeing = y.freeing;
  }

  pub canon_after : (e : Entry) → MayFollow e s → canon (state_after def e (canon s)) ≡ canon (state_after def e s)
  canon_after e may =
      let x = state_after def e (canon s) in
      let y = state_after def e s in
      let asks = asks_same e may.made may.own in
      let high : high_in x.asks ≡ high_in y.asks =
      sym (high_same (serves_after e) (working_after e) (threads_work_after e) x.asks)
      ∙ (ap high_in asks ∙ high_same (serves_after e) (working_after e) (threads_work_after e) y.asks) in
      let l = canon_list (new_flow e) x.list in
      let a = canon_asks (serves_after e) (working_after e) (threads_work_after e) x.asks in
      let a' = canon_asks (serves_after e) (working_after e) (threads_work_after e) y.asks in
      let p = new_places e x.places in
      let p' = new_places e y.places in
      let r = canon_round (new_flow e) x.round in
      let n = canon_tally x.counts in
      let l' = canon_list (new_flow e) y.list in
      let r' = canon_round (new_flow e) y.round in
      ap (λ (d : DescSeen). made_of y d x.cell l a p r n) (ap (λ b. desc_after def b e s.desc) (none_same s.list.actions))
      ∙ (ap (λ (c : Cell). made_of y y.desc c l a p r n) (ap (λ b. driven_by def e s.desc b s.cell) high)
      ∙ (ap (λ (z : ListSeen). made_of y y.desc y.cell z a p r n) (list_same e may.made)
      ∙ (ap (λ (z : List (DevNo × AskRow)). made_of y y.desc y.cell l' z p r n) asks
      ∙ (ap (λ (z : PlacesSeen). made_of y y.desc y.cell l' a' z r n) (places_same e may.own_runs)
      ∙ (ap (λ (z : RoundSeen). made_of y y.desc y.cell l' a' p' z n) (round_same def e (new_flow e) (in_flow s) s.round (stays e))
      ∙ ap (made_of y y.desc y.cell l' a' p' r') (tally_same e may))))))
