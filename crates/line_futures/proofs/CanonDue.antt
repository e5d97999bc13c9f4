-- What is due is read off the canonical state alike.
use Rattle.std.proofs.Common.{◌≡◌, ℕ, Bool, true, false, not, ◌&&◌, ◌||◌, cond, ◌==◌, ltb, is_some, Option, Some, None}
use Rattle.std.proofs.Common.{List, option_map, slice_get, refl, ap, ◌∙◌}
use Rattle.irq_base.specs.Cell.{signals}
use Rattle.irq_base.specs.Handlers.{answer_of, has_thread}
use Rattle.irq_base.specs.declared.calls.Call.{Call}
use Rattle.irq_base.specs.declared.calls.Call.TheVariants as calls
use Rattle.irq_base.specs.declared.calls.Flags.{Flags}
use Rattle.irq_base.specs.declared.devices.Answer.{Answer}
use Rattle.irq_base.specs.declared.devices.Part.{Part}
use Rattle.irq_base.specs.declared.devices.Part.TheVariants as parts
use Rattle.irq_base.specs.declared.devices.ToldAnswer.{ToldAnswer}
use Rattle.irq_base.specs.declared.entries.Actor.{Actor}
use Rattle.irq_base.specs.declared.entries.Actor.TheVariants as actors
use Rattle.irq_base.specs.declared.entries.Entry.{Entry}
use Rattle.irq_base.specs.declared.entries.Entry.TheVariants as by
use Rattle.irq_base.specs.declared.entries.CpuEntry.TheVariants as cpus
use Rattle.irq_base.specs.declared.entries.ThreadEntry.TheVariants as threads
use Rattle.irq_base.specs.declared.entries.DriverEntry.TheVariants as drivers
use Rattle.irq_base.specs.declared.entries.CallEntry.TheVariants as called
use Rattle.irq_base.specs.declared.entries.LinkAnswer.{LinkAnswer}
use Rattle.irq_base.specs.declared.entries.LinkAnswer.TheVariants as links
use Rattle.irq_base.specs.declared.entries.Note.{Note}
use Rattle.irq_base.specs.declared.entries.Opened.{Opened}
use Rattle.irq_base.specs.declared.entries.Opened.TheVariants as opens
use Rattle.irq_base.specs.declared.entries.TakeAnswer.{TakeAnswer}
use Rattle.irq_base.specs.declared.entries.UnlinkAnswer.{UnlinkAnswer}
use Rattle.irq_base.specs.declared.entries.Way.TheVariants as ways
use Rattle.irq_base.specs.declared.lines.LineDef.{LineDef}
use Rattle.irq_base.specs.declared.numbers.CpuNo.{CpuNo}
use Rattle.irq_base.specs.declared.numbers.DevNo.{DevNo}
use Rattle.irq_base.specs.declared.numbers.DriverNo.{DriverNo}
use Rattle.irq_model.specs.Kinds.{is_handled, opened_by_enable}
use Rattle.irq_model.specs.Lines.{is_edge_line, told_answers}
use Rattle.irq_model.specs.Rounds.{is_cpu}
use Rattle.irq_model.specs.Runs.{is_recognised, is_that_part, serves_by_word}
use Rattle.irq_model.specs.Signal.{lowest_in}
use Rattle.irq_model.specs.Spurious.{noted}
use Rattle.irq_model.proofs.Same.{same_self}
use Rattle.irq_model.specs.Laid.{with_count}
use Rattle.device_table.specs.Rows.{at}
use Rattle.act_list.specs.Actions.{answer_by as link_answer_by}
use Rattle.act_list.specs.Lists.{cleared, first_left}
use Rattle.act_thread.specs.Steps.{is_begun, may_return}
use Rattle.act_thread.specs.Threads.{row_passes, wakes_at}
use Rattle.act_thread.specs.declared.rows.Stage.{Stage}
use Rattle.act_thread.specs.declared.rows.Stage.TheVariants as stages
use Rattle.act_thread.specs.declared.rows.ThreadRow.{ThreadRow}
use Rattle.ask_counts.specs.Facts.{facts_at}
use Rattle.ask_counts.specs.Rows.{is_quiet_at, unserved_at}
use Rattle.desc_state.specs.Desc.{resend_by, enable_by}
use Rattle.flow_handlers.specs.Flows.{answer_by}
use Rattle.line_scripts.specs.Rows.{RowSeen}
use Rattle.run_scripts.specs.Places.{place_at}
use Rattle.run_scripts.specs.declared.rows.RunPlace.{RunPlace}
use Rattle.run_scripts.specs.declared.rows.Turn.{Turn}
use Rattle.line_marks.specs.Acts.{killed_if, left_by}
use Rattle.line_marks.specs.Calls.{clear_by, freed_by, wake_by, ask_edge_by, arm_edge_by, step_by}
use Rattle.line_marks.specs.CpuDue.{is_held, return_by, note_by, end_with, end_by, begin_or_end_by}
use Rattle.line_marks.specs.CpuDue.{handler_or_return_by, in_flow_by, take_by, next_take_by, cpu_due}
use Rattle.line_marks.specs.DriversDue.{opened_by, request_to, driver_due}
use Rattle.line_marks.specs.Due.{call_or_return_by, due_at_stage, due_of_row, thread_due, thread_return_by}
use Rattle.line_marks.specs.Facts.{kind_at, serves_in}
use Rattle.line_marks.specs.Next.{due_by, due_call_in}
use Rattle.line_marks.specs.Places.{call_at}
use Rattle.line_marks.specs.Runs.{met_in, met_at, told_at, answer_at, taken_in, served_at, makes_calls_at, due_in_run_at}
use Rattle.line_marks.specs.State.{StateSeen}
use Rattle.line_futures.specs.Canon.{in_flow, is_serving, is_working, is_thread_working, serves_at, canon, canon_counts}
use Rattle.line_futures.proofs.Actions.{bare, none_same, has_same, left_same, answer_same, unlink_same}
use Rattle.line_futures.proofs.AsksAfter.{lowered, met_same, taken_same, asks_at, unserved_same, quiet_same}
use Rattle.line_futures.proofs.Counting.{noted_same}
use Rattle.line_futures.proofs.RunsAfter.{place_same, call_same, handler_turn_same, thread_turn_same}

-- the part that serves is at work
handler_serves : (o : Option Part) (h t : Bool) → is_that_part parts.Primary o ≡ true → h ≡ true → is_serving o h t ≡ true
handler_serves None h t own works = cc
handler_serves (Some parts.Primary) h t own works = works
handler_serves (Some parts.Thread) h t own works = cc

thread_serves : (o : Option Part) (h t : Bool) → is_that_part parts.Thread o ≡ true → t ≡ true → is_serving o h t ≡ true
thread_serves None h t own works = cc
thread_serves (Some parts.Primary) h t own works = cc
thread_serves (Some parts.Thread) h t own works = works

-- the same is taken away, if the part serves
taken_if : (own word : Bool) (n m : ℕ) → (own ≡ true → n ≡ m) → cond (own && word) n 0 ≡ cond (own && word) m 0
taken_if true word n m h = ap (λ (x : ℕ). cond word x 0) (h refl)
taken_if false word n m h = refl

module _ (def : LineDef) (s : StateSeen) where
  abbrev h : DevNo → Bool
  h = is_working s.round.working

  abbrev t : DevNo → Bool
  t = is_thread_working s.threads

  -- ---- the step of a call

  unserved_is : (d : DevNo) → unserved_at (canon s).asks d ≡ unserved_at s.asks d
  unserved_is d = unserved_same (serves_at s) h t s.asks d

  quiet_is : (d : DevNo) → is_quiet_at (canon s).asks d ≡ is_quiet_at s.asks d
  quiet_is d = quiet_same (serves_at s) h t s.asks d

  wake_same : (d : DevNo) → wake_by d (canon s) ≡ wake_by d s
  wake_same d = ap (λ b. wakes_at (b && has_thread (kind_at s.facts d)) s.threads d) (has_same d s.list.actions)

  ask_edge_same : (d : DevNo) → ask_edge_by def d (canon s) ≡ ask_edge_by def d s
  ask_edge_same d =
      ap (λ q. not (is_edge_line def) || (not q && (not (facts_at s.facts d).held || (unserved_at (canon s).asks d == 0)))) (quiet_is d)
      ∙ ap (λ n. not (is_edge_line def) || (not (is_quiet_at s.asks d) && (not (facts_at s.facts d).held || (n == 0)))) (unserved_is d)

  arm_edge_same : (d : DevNo) → arm_edge_by def d (canon s) ≡ arm_edge_by def d s
  arm_edge_same d =
      ap (λ q. is_edge_line def && (q && (ltb 0 (unserved_at (canon s).asks d) && not (facts_at s.facts d).forgets))) (quiet_is d)
      ∙ ap (λ n. is_edge_line def && (is_quiet_at s.asks d && (ltb 0 n && not (facts_at s.facts d).forgets))) (unserved_is d)

  pub step_same : (due : Call × ℕ) → step_by def (canon s) due ≡ step_by def s due
  step_same (calls.Ask d, n) = refl
  step_same (calls.Request d flags, n) = refl
  step_same (calls.Free d, n) =
      ap (λ (a : UnlinkAnswer). cond (n == 0) (cond (is_some s.freeing) None (Some (called.Unlink a d)))
      (cond (n == 1) (clear_by s) (freed_by d s))) (unlink_same d s.list.actions)
  step_same (calls.Disable, n) = refl
  step_same (calls.DisableNosync, n) = refl
  step_same (calls.Enable, n) = ap (λ b. Some (called.Enable (enable_by (not b) def.trigger s.desc s.cell))) (none_same s.list.actions)
  step_same (calls.Sync, n) = refl
  step_same (calls.Affinity mask, n) = refl
  step_same (calls.Moment at, n) = refl
  step_same (calls.SyncHard, n) = refl
  step_same (calls.DisableHard, n) = refl
  step_same (calls.Wake d, n) = ap (λ b. Some (called.Wake b d)) (wake_same d)
  step_same (calls.Quiet d, n) = refl
  step_same (calls.Arm d, n) = ap (λ b. Some (called.Arm b d)) (arm_edge_same d)
  step_same (calls.Serve d, n) = ap (λ k. Some (called.Serve d k)) (unserved_is d)

  -- ---- what a run answers and serves

  module _ (d : DevNo) where
    row : at (canon s).asks d ≡ lowered (serves_at s d) (h d) (t d) (at s.asks d)
    row = asks_at (serves_at s) h t s.asks d

    answer_by_parts : (part : Part) → met_at (canon s) part d ≡ met_at s part d → told_at def (canon s) part d ≡ told_at def s part d
        → answer_at def (canon s) part d ≡ answer_at def s part d
    answer_by_parts part met told =
        ap (λ n. answer_of (kind_at s.facts d) part n (told_at def (canon s) part d)) met
        ∙ ap (λ (w : Option ToldAnswer). answer_of (kind_at s.facts d) part (met_at s part d) w) told

    served_by_parts : (part : Part) → told_at def (canon s) part d ≡ told_at def s part d
        → (serves_in s.facts part d ≡ true → serves_at s d ≡ true) → served_at def (canon s) part d ≡ served_at def s part d
    served_by_parts part told works =
        ap (λ (w : Option ToldAnswer). cond (serves_in s.facts part d && serves_by_word (kind_at s.facts d) w) (taken_in (at (canon s).asks d)) 0) told
        ∙ taken_if (serves_in s.facts part d) (serves_by_word (kind_at s.facts d) (told_at def s part d))
        (taken_in (at (canon s).asks d)) (taken_in (at s.asks d))
        (λ own. ap taken_in row ∙ taken_same (serves_at s d) (h d) (t d) (at s.asks d) (works own))

    module _ (works : h d ≡ true) where
      handler_met : met_at (canon s) parts.Primary d ≡ met_at s parts.Primary d
      handler_met = ap (met_in parts.Primary) row ∙ (met_same (serves_at s d) (h d) (t d) (at s.asks d)).0 works

      handler_told : told_at def (canon s) parts.Primary d ≡ told_at def s parts.Primary d
      handler_told = ap (λ (x : Turn). slice_get (told_answers def d parts.Primary) x.now) (handler_turn_same h t s.places d works)

      handler_answer : answer_at def (canon s) parts.Primary d ≡ answer_at def s parts.Primary d
      handler_answer = answer_by_parts parts.Primary handler_met handler_told

      handler_served : served_at def (canon s) parts.Primary d ≡ served_at def s parts.Primary d
      handler_served = served_by_parts parts.Primary handler_told
          (λ own. handler_serves (facts_at s.facts d).serving (h d) (t d) own works)

      pub return_same : (c : CpuNo) → return_by def (canon s) c d ≡ return_by def s c d
      return_same c =
          ap (λ (a : Answer). by.Cpu c (cpus.Return a d (served_at def (canon s) parts.Primary d))) handler_answer
          ∙ ap (λ n. by.Cpu c (cpus.Return (answer_at def s parts.Primary d) d n)) handler_served

      makes_same : makes_calls_at def (canon s) parts.Primary d ≡ makes_calls_at def s parts.Primary d
      makes_same = ap is_recognised handler_answer

    module _ (works : t d ≡ true) where
      thread_met : met_at (canon s) parts.Thread d ≡ met_at s parts.Thread d
      thread_met = ap (met_in parts.Thread) row ∙ (met_same (serves_at s d) (h d) (t d) (at s.asks d)).1 works

      thread_told : told_at def (canon s) parts.Thread d ≡ told_at def s parts.Thread d
      thread_told = ap (λ (x : Turn). slice_get (told_answers def d parts.Thread) x.now) (thread_turn_same h t s.places d works)

      thread_answer : answer_at def (canon s) parts.Thread d ≡ answer_at def s parts.Thread d
      thread_answer = answer_by_parts parts.Thread thread_met thread_told

      thread_served : served_at def (canon s) parts.Thread d ≡ served_at def s parts.Thread d
      thread_served = served_by_parts parts.Thread thread_told
          (λ own. thread_serves (facts_at s.facts d).serving (h d) (t d) own works)

      pub thread_return_same : thread_return_by def (canon s) d ≡ thread_return_by def s d
      thread_return_same =
          ap (λ (a : Answer). by.Thread d (threads.Return (is_handled a) (served_at def (canon s) parts.Thread d))) thread_answer
          ∙ ap (λ n. by.Thread d (threads.Return (is_handled (answer_at def s parts.Thread d)) n)) thread_served

    -- the run's due call
    due_by_place : (part : Part) → with_count (call_at def (canon s).places part d) (place_at (canon s).places d part).within
        ≡ with_count (call_at def s.places part d) (place_at s.places d part).within
    due_by_place part =
        ap (λ (c : Option Call). with_count c (place_at (canon s).places d part).within) (call_same h t s.places d def part)
        ∙ ap (λ (p : RunPlace). with_count (call_at def s.places part d) p.within) (place_same h t s.places d part)

    due_in_handler : h d ≡ true → due_in_run_at def (canon s) parts.Primary d ≡ due_in_run_at def s parts.Primary d
    due_in_handler works =
        ap (λ b. cond b (with_count (call_at def (canon s).places parts.Primary d) (place_at (canon s).places d parts.Primary).within) None)
        (makes_same works)
        ∙ ap (λ (o : Option (Call × ℕ)). cond (makes_calls_at def s parts.Primary d) o None) (due_by_place parts.Primary)

    pub due_in_thread : due_in_run_at def (canon s) parts.Thread d ≡ due_in_run_at def s parts.Thread d
    due_in_thread = due_by_place parts.Thread

    call_or_return_same : t d ≡ true → (o : Option (Call × ℕ)) → call_or_return_by def (canon s) d o ≡ call_or_return_by def s d o
    call_or_return_same works None = ap Some (thread_return_same works)
    call_or_return_same works (Some due) = ap (option_map (by.ThreadCall d)) (step_same due)

    handler_or_return_same : (c : CpuNo) → h d ≡ true → (o : Option (Call × ℕ)) → handler_or_return_by def (canon s) c d o ≡ handler_or_return_by def s c d o
    handler_or_return_same c works None = ap Some (return_same works c)
    handler_or_return_same c works (Some due) = ap (option_map (by.CpuCall c)) (step_same due)

  -- ---- threads

  by_stage : (d : DevNo) (r : ThreadRow) (g : Stage) → r.stage ≡ g → at s.threads d ≡ Some r → due_at_stage def g (canon s) d r ≡ due_at_stage def g s d r
  by_stage d r stages.Idle is found = refl
  by_stage d r stages.Begun is found =
      let works : is_thread_working s.threads d ≡ true = ap (row_passes may_return false) found ∙ ap is_begun is in
      ap (call_or_return_by def (canon s) d) (due_in_thread d)
      ∙ call_or_return_same d works (due_in_run_at def s parts.Thread d)
  by_stage d r stages.Returned is found = refl
  by_stage d r stages.Finished is found = refl

  by_row : (d : DevNo) (o : Option ThreadRow) → at s.threads d ≡ o → due_of_row def (canon s) d o ≡ due_of_row def s d o
  by_row d None found = refl
  by_row d (Some r) found = by_stage d r r.stage refl found

  pub thread_same : (d : DevNo) → thread_due def (canon s) d ≡ thread_due def s d
  thread_same d = by_row d (at s.threads d) refl

  -- ---- processors

  take_same : take_by (canon s) ≡ take_by s
  take_same = ap (λ b. answer_by (not b) s.desc) (none_same s.list.actions)

  next_take_same : (c : CpuNo) → next_take_by (canon s) c ≡ next_take_by s c
  next_take_same c =
      ap (λ (a : TakeAnswer). cond (not (is_cpu c (lowest_in s.aim.cpus s.aim.mask))) None
      (cond (signals s.cell) (Some (by.Cpu c (cpus.Take ways.Line a))) (cond s.desc.soft (Some (by.Cpu c (cpus.Take ways.Resend a))) None))) take_same

  module _ (flows : in_flow s ≡ true) where
    note_same : note_by (canon s) ≡ note_by s
    note_same =
        ap (λ f. (noted s.counts.window s.counts.limit s.round.moment (f && s.round.wakes) (f && s.round.handles) (canon_counts s.counts.counts)).note) flows
        ∙ (noted_same s.counts.window s.counts.limit s.round.moment s.round.wakes s.round.handles s.counts.counts).0

    end_same : (c : CpuNo) → end_by def (canon s) c ≡ end_by def s c
    end_same c = ap (λ (n : Note). end_with c n (left_by def def.flow (is_held s) (killed_if n s.desc))) note_same

    left_is : first_left (canon s).list.begun (canon s).list.actions ≡ first_left s.list.begun s.list.actions
    left_is =
        ap (λ f. first_left (cond f s.list.begun (cleared s.list.begun)) (bare s.list.actions)) flows
        ∙ left_same s.list.begun s.list.actions

    begin_or_end_same : (c : CpuNo) (o : Option DevNo) → begin_or_end_by def (canon s) c o ≡ begin_or_end_by def s c o
    begin_or_end_same c None = end_same c
    begin_or_end_same c (Some d) = refl

    in_flow_same : (c : CpuNo) (w : Option DevNo) → s.round.working ≡ w → in_flow_by def (canon s) c w ≡ in_flow_by def s c w
    in_flow_same c None is =
        ap (λ (o : Option DevNo). Some (begin_or_end_by def (canon s) c o)) left_is
        ∙ ap Some (begin_or_end_same c (first_left s.list.begun s.list.actions))
    in_flow_same c (Some d) is =
        let works : is_working s.round.working d ≡ true = ap (λ (w : Option DevNo). is_working w d) is ∙ same_self d in
        ap (handler_or_return_by def (canon s) c d) (due_in_handler d works)
        ∙ handler_or_return_same d c works (due_in_run_at def s parts.Primary d)

  pub cpu_same : (c : CpuNo) → cpu_due def (canon s) c ≡ cpu_due def s c
  cpu_same c = by_flow s.desc.flow refl
    where
      by_flow : (o : Option CpuNo) → s.desc.flow ≡ o → cond (is_cpu c o)
          (in_flow_by def (canon s) c s.round.working) (next_take_by (canon s) c)
          ≡ cond (is_cpu c o) (in_flow_by def s c s.round.working) (next_take_by s c)
      by_flow None is = next_take_same c
      by_flow (Some f) is =
          ap (λ (e : Option Entry). cond (is_cpu c (Some f)) e (next_take_by (canon s) c)) (in_flow_same (ap is_some is) c s.round.working refl)
          ∙ ap (λ (o : Option Entry). cond (is_cpu c (Some f)) (in_flow_by def s c s.round.working) o) (next_take_same c)

  -- ---- drivers

  opened_same : (flags : Flags) → opened_by def flags (canon s) ≡ opened_by def flags s
  opened_same flags =
      ap (λ b. cond b (cond flags.noauto opens.No (opens.Started (resend_by def.trigger s.desc s.cell)))
      (cond s.desc.spurious (opened_by_enable (enable_by (not b) def.trigger s.desc s.cell)) opens.No)) (none_same s.list.actions)

  request_same : (r : DriverNo) (d : DevNo) (flags : Flags) (a : LinkAnswer) → request_to def r d flags (canon s) a ≡ request_to def r d flags s a
  request_same r d flags links.Linked = ap (λ (o : Opened). by.Driver r (drivers.Request flags links.Linked o d)) (opened_same flags)
  request_same r d flags (links.Refused error) = refl

  by_step : (r : DriverNo) (due : Call × ℕ) → option_map (by.DriverCall r) (step_by def (canon s) due) ≡ option_map (by.DriverCall r) (step_by def s due)
  by_step r due = ap (option_map (by.DriverCall r)) (step_same due)

  pub driver_same : (r : DriverNo) (o : Option (Call × ℕ)) → driver_due def (canon s) r o ≡ driver_due def s r o
  driver_same r None = refl
  driver_same r (Some (calls.Ask d, n)) = ap (λ b. Some (by.Driver r (drivers.Ask b d))) (ask_edge_same d)
  driver_same r (Some (calls.Request d flags, n)) =
      ap (λ (e : Entry). cond (is_some s.freeing) None (Some e))
      (ap (request_to def r d flags (canon s)) (answer_same (kind_at s.facts d) flags s.list.actions)
      ∙ request_same r d flags (link_answer_by (kind_at s.facts d) flags s.list.actions))
  driver_same r (Some (calls.Free d, n)) = by_step r (calls.Free d, n)
  driver_same r (Some (calls.Disable, n)) = by_step r (calls.Disable, n)
  driver_same r (Some (calls.DisableNosync, n)) = by_step r (calls.DisableNosync, n)
  driver_same r (Some (calls.Enable, n)) = by_step r (calls.Enable, n)
  driver_same r (Some (calls.Sync, n)) = by_step r (calls.Sync, n)
  driver_same r (Some (calls.Affinity mask, n)) = refl
  driver_same r (Some (calls.Moment at, n)) = refl
  driver_same r (Some (calls.SyncHard, n)) = by_step r (calls.SyncHard, n)
  driver_same r (Some (calls.DisableHard, n)) = by_step r (calls.DisableHard, n)
  driver_same r (Some (calls.Wake d, n)) = by_step r (calls.Wake d, n)
  driver_same r (Some (calls.Quiet d, n)) = by_step r (calls.Quiet d, n)
  driver_same r (Some (calls.Arm d, n)) = by_step r (calls.Arm d, n)
  driver_same r (Some (calls.Serve d, n)) = by_step r (calls.Serve d, n)

  -- ---- all of them

  pub due_same : (scripts : List (DriverNo × RowSeen)) (a : Actor) → due_by def (canon s) scripts a ≡ due_by def s scripts a
  due_same scripts (actors.Thread d) = thread_same d
  due_same scripts (actors.Cpu c) = cpu_same c
  due_same scripts (actors.Driver r) = driver_same r (due_call_in scripts r)
