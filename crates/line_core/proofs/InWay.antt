-- What stands in the way of an actor is what the state says.
use Rattle.std.proofs.Common.{◌-◌, ◌≤◌, ◌≡◌, ℕ, drop, arith, Bool, true, false, not, ◌||◌, ◌&&◌, cond, is_some, Option}
use Rattle.std.proofs.Common.{Some, None, List, [], ◌∷◌, option_map, refl, sym, ap, reverse, ◌∙◌}
use Rattle.std.specs.List.{slice_get}
use Rattle.irq_base.specs.declared.calls.Call.{Call}
use Rattle.irq_base.specs.declared.devices.DeviceDef.{DeviceDef}
use Rattle.irq_base.specs.declared.devices.Part.TheVariants as parts
use Rattle.irq_base.specs.declared.entries.Actor.{Actor}
use Rattle.irq_base.specs.declared.entries.Actor.TheVariants as actors
use Rattle.irq_base.specs.declared.entries.Entry.{Entry}
use Rattle.irq_base.specs.declared.lines.LineDef.{LineDef}
use Rattle.irq_base.specs.declared.numbers.CpuNo.{CpuNo}
use Rattle.irq_base.specs.declared.numbers.DevNo.{DevNo}
use Rattle.irq_base.specs.declared.numbers.DriverNo.{DriverNo}
use Rattle.irq_base.specs.declared.waiting.WaitFor.{WaitFor}
use Rattle.irq_base.specs.declared.waiting.WaitFor.TheVariants as waits
use Rattle.irq_laws.specs.Blocks.{block_of}
use Rattle.irq_laws.specs.Kept.{freeing}
use Rattle.irq_line.specs.Seen.{LineSeen}
use Rattle.irq_model.proofs.Lists.{next_item}
use Rattle.irq_model.specs.Legal.{IsLegalPast}
use Rattle.irq_model.specs.Lines.{has_device}
use Rattle.irq_model.specs.Masks.{is_masked}
use Rattle.irq_model.specs.Next.{next_of_thread}
use Rattle.irq_model.specs.Rounds.{at_work, flow, is_cpu}
use Rattle.irq_model.specs.Runs.{due_in_run}
use Rattle.irq_model.specs.Signal.{target}
use Rattle.irq_model.specs.Threads.{is_running, is_woken}
use Rattle.irq_model.specs.Valid.{IsValid}
use Rattle.irq_model.specs.Waiting.{is_soft}
use Rattle.device_table.proofs.Tables.{at_device, at_none}
use Rattle.device_table.specs.Rows.{at}
use Rattle.act_thread.specs.Steps.{is_in_run}
use Rattle.act_thread.specs.declared.rows.Stage.{Stage}
use Rattle.act_thread.specs.declared.rows.Stage.TheVariants as stages
use Rattle.act_thread.specs.declared.rows.ThreadRow.{ThreadRow}
use Rattle.line_obstacles.specs.Obstacles.{flow_in_way, freed_in_way, in_way, in_way_of_call}
use Rattle.line_obstacles.specs.Obstacles.{in_way_of_cpu, in_way_of_handler, in_way_of_run, in_way_of_take, in_way_of_thread}
use Rattle.line_obstacles.specs.Obstacles.{is_at_work, lower, lowest_that, waited_for}
use Rattle.line_obstacles.specs.declared.obstacle.Obstacle.{Obstacle}
use Rattle.line_obstacles.specs.declared.obstacle.Obstacle.TheVariants as obstacles
use Rattle.line_scripts.specs.Rows.{RowSeen}
use Rattle.run_scripts.specs.Runs.{RunsSeen}
use Rattle.line_marks.proofs.CellFollows.{presents_is}
use Rattle.line_marks.proofs.CallsDue.{idle_is}
use Rattle.line_marks.proofs.DueIs.{call_is}
use Rattle.line_marks.proofs.RunsAre.{handler_due_is}
use Rattle.line_marks.proofs.RunsAre.{thread_due_is as run_due_is}
use Rattle.line_marks.proofs.ThreadsDue.{thread_due_is}
use Rattle.line_marks.specs.Due.{due_at_stage, due_of_row}
use Rattle.line_marks.specs.Line.{IsLine}
use Rattle.line_marks.specs.Next.{due_call_in}
use Rattle.line_marks.specs.State.{StateSeen, state_of}
use Rattle.line_marks.specs.Threads.{thread_of, threads_of, stage_by, has_returned, has_finished}
use Rattle.line_state.specs.Waits.{wait_at, wait_of_due, wait_of_handler, wait_of_row}
use Rattle.line_core.proofs.More.{working_named}
use Rattle.line_core.specs.InWay.{busy_in, by_cpu, by_freed, by_row, by_take, by_thread, by_wait}
use Rattle.line_core.specs.InWay.{unless_target}

-- ---- the lowest of some devices

-- of the devices from one place further in front
module _ (f : DevNo → Bool) (xs : List DeviceDef) (place : ℕ) (x : DeviceDef) (some : 1 ≤ place)
    (at : slice_get xs (place - 1) ≡ Some x) where
  before : drop (place - 1) xs ≡ x ∷ drop place xs
  before = next_item xs (place - 1) x at ∙ ap (λ n. x ∷ drop n xs) (omega (arith, some))

  by_device : (b : Bool) → f x.dev ≡ b
      → cond b (Some (lower x.dev (lowest_that f (drop place xs)))) (lowest_that f (drop place xs)) ≡ lowest_that f (drop (place - 1) xs)
  by_device b is =
      ap (λ t. cond t (Some (lower x.dev (lowest_that f (drop place xs)))) (lowest_that f (drop place xs))) (sym is)
      ∙ ap (lowest_that f) (sym before)

  pub lowest_more : (o : Option DevNo) → o ≡ lowest_that f (drop place xs) → f x.dev ≡ true
      → Some (lower x.dev o) ≡ lowest_that f (drop (place - 1) xs)
  lowest_more o so is = ap (λ l. Some (lower x.dev l)) so ∙ by_device true is

  pub lowest_same : (o : Option DevNo) → o ≡ lowest_that f (drop place xs) → f x.dev ≡ false
      → o ≡ lowest_that f (drop (place - 1) xs)
  lowest_same o so is = so ∙ by_device false is

alike : (f g : DevNo → Bool) → ((d : DevNo) → f d ≡ g d) → (xs : List DeviceDef)
    → lowest_that f xs ≡ lowest_that g xs
alike f g same [] = refl
alike f g same (x ∷ xs) =
    ap (λ b. cond b (Some (lower x.dev (lowest_that f xs))) (lowest_that f xs)) (same x.dev)
    ∙ ap (λ o. cond (g x.dev) (Some (lower x.dev o)) o) (alike f g same xs)

not_both : (a b : Bool) → (a || b) ≡ not (not a && not b)
not_both true b = refl
not_both false true = refl
not_both false false = refl

module _ (def : LineDef) (past : List Entry) (valid : IsValid def) (legal : IsLegalPast def past) where
  busy : (d : DevNo) → is_at_work past d ≡ busy_in (state_of def past) d
  busy d = not_both (is_woken past d) (is_running past d) ∙ ap not (sym (idle_is def past valid legal d))

  of_freed : (o : Option (Actor × DevNo)) → freed_in_way past o ≡ by_freed (state_of def past) o
  of_freed None = refl
  of_freed (Some (maker, d)) = ap (λ b. cond b (Some (obstacles.Thread d)) None) (busy d)

  of_wait : (w : WaitFor) → waited_for def past w ≡ by_wait (state_of def past) def.devices w
  of_wait waits.Nothing = refl
  of_wait waits.Flow = refl
  of_wait waits.Threads = ap (option_map obstacles.Thread) (alike (is_at_work past) (busy_in (state_of def past)) busy def.devices)
  of_wait waits.Mutex = refl
  of_wait waits.Freed = of_freed (freeing past)

  abbrev seen : StateSeen
  seen = state_of def past

  of_due : (o : Option (Call × ℕ)) → in_way_of_call def past o ≡ by_wait (state_of def past) def.devices (wait_of_due o)
  of_due None = refl
  of_due (Some (c, n)) = of_wait (block_of c n)

  -- ---- processors

  of_handler : (o : Option DevNo) → at_work past ≡ o
      → in_way_of_handler def past o ≡ by_wait (state_of def past) def.devices (wait_of_handler def (state_of def past) o)
  of_handler None is = refl
  of_handler (Some d) is =
      of_due (due_in_run def parts.Primary d past)
      ∙ ap (λ (o : Option (Call × ℕ)). by_wait (state_of def past) def.devices (wait_of_due o))
      (sym (handler_due_is def past d (working_named def past d valid legal is) is))

  of_take : (c : CpuNo) → in_way_of_take def past c ≡ by_take (state_of def past) c
  of_take c = ap (λ b. cond (b || is_soft past) (unless_target c (target def past))
      (cond (is_masked def past) (Some obstacles.Masked) (Some obstacles.NoSignal)))
      (sym (presents_is def past valid legal))

  of_cpu : (c : CpuNo) → in_way_of_cpu def past c ≡ by_cpu def (state_of def past) def.devices c
  of_cpu c =
      ap (λ (o : Option Obstacle). cond (is_cpu c (flow def past)) o (in_way_of_take def past c)) (of_handler (at_work past) refl)
      ∙ ap (λ (o : Option Obstacle). cond (is_cpu c (flow def past)) (by_wait (state_of def past) def.devices
      (wait_of_handler def (state_of def past) (at_work past))) o) (of_take c)

  -- ---- threads

  module _ (d : DevNo) (there : has_device def d ≡ true) where
    abbrev told : Stage → Option Obstacle
    told stage = cond (is_some (due_at_stage def stage (state_of def past) d (thread_of past d))) None
        (by_wait (state_of def past) def.devices (wait_at def (state_of def past) d stage))

    -- to finish it waits for the flow, on a one-shot line
    unfinished : (o : Bool) (x : Option Entry) (y : Entry) (w : Option Obstacle) → w ≡ flow_in_way def past
        → cond (is_some (cond o x (Some y))) None w
        ≡ cond (is_some (cond o x (Some y))) None (by_wait (state_of def past) def.devices (cond o waits.Flow waits.Nothing))
    unfinished true x y w is = ap (λ (z : Option Obstacle). cond (is_some x) None z) is
    unfinished false x y w is = refl

    by_stage : (r t f : Bool) → has_returned past d ≡ t
        → cond r (cond (is_some (due_at_stage def (stage_by r t f) (state_of def past) d (thread_of past d))) None (in_way_of_run def past d)) None
        ≡ cond (is_in_run (stage_by r t f)) (told (stage_by r t f)) None
    by_stage false t f it = refl
    by_stage true false f it =
        ap (λ (w : Option Obstacle). cond (is_some (due_at_stage def stages.Begun (state_of def past) d (thread_of past d))) None w)
        (ap (λ (b : Bool). cond b (flow_in_way def past) (in_way_of_call def past (due_in_run def parts.Thread d past))) it
        ∙ (of_due (due_in_run def parts.Thread d past)
        ∙ ap (λ (o : Option (Call × ℕ)). by_wait (state_of def past) def.devices (wait_of_due o)) (sym (run_due_is def past d there it))))
    by_stage true true false it =
        unfinished (state_of def past).desc.oneshot _ _ (in_way_of_run def past d)
        (ap (λ (b : Bool). cond b (flow_in_way def past) (in_way_of_call def past (due_in_run def parts.Thread d past))) it)
    by_stage true true true it = refl

    abbrev row : Option ThreadRow
    row = at (threads_of def past) d

    row_is : at (threads_of def past) d ≡ Some (thread_of past d)
    row_is = at_device (thread_of past) def.devices d there

    of_row : cond (is_running past d) (cond (is_some (next_of_thread def d past)) None (in_way_of_run def past d)) None
        ≡ by_thread def (state_of def past) def.devices d
    of_row =
        ap (λ (o : Option Entry). cond (is_running past d) (cond (is_some o) None (in_way_of_run def past d)) None)
        (thread_due_is def past d valid legal ∙ ap (due_of_row def (state_of def past) d) row_is)
        ∙ (by_stage (is_running past d) (has_returned past d) (has_finished past d) refl
        ∙ (ap (λ (w : WaitFor). cond (is_in_run (thread_of past d).stage)
        (cond (is_some (due_of_row def (state_of def past) d (Some (thread_of past d)))) None (by_wait (state_of def past) def.devices w)) None)
        (sym (ap (wait_of_row def (state_of def past) d) row_is))
        ∙ sym (ap (by_row def (state_of def past) def.devices d) row_is)))

  of_thread : (d : DevNo) → in_way_of_thread def past d ≡ by_thread def (state_of def past) def.devices d
  of_thread d = by_test (has_device def d) refl
    where
      by_test : (b : Bool) → has_device def d ≡ b
          → cond (b && is_running past d) (cond (is_some (next_of_thread def d past)) None (in_way_of_run def past d)) None
          ≡ by_thread def (state_of def past) def.devices d
      by_test false gone = sym (ap (by_row def (state_of def past) def.devices d) (at_none (thread_of past) def.devices d gone))
      by_test true there = of_row d there

module _ (line : LineSeen) (s : StateSeen) (scripts : List (DriverNo × RowSeen)) (runs : RunsSeen)
    (is : IsLine line.def line.entries s scripts runs) where
  abbrev past : List Entry
  past = reverse line.entries

  pub cpu_told : (c : CpuNo) → by_cpu line.def s line.def.devices c ≡ in_way line.def past (actors.Cpu c)
  cpu_told c = ap (λ (x : StateSeen). by_cpu line.def x line.def.devices c) is.state ∙ sym (of_cpu line.def past is.valid is.legal c)

  pub thread_told : (d : DevNo) → by_thread line.def s line.def.devices d ≡ in_way line.def past (actors.Thread d)
  thread_told d = ap (λ (x : StateSeen). by_thread line.def x line.def.devices d) is.state ∙ sym (of_thread line.def past is.valid is.legal d)

  pub no_call_in_way : (r : DriverNo) → due_call_in scripts r ≡ None → None ≡ in_way line.def past (actors.Driver r)
  no_call_in_way r none = sym (ap (in_way_of_call line.def past) (call_is line.def past scripts is.calls is.at r ∙ none))

  pub wait_told : (r : DriverNo) (call : Call) (made : ℕ) → due_call_in scripts r ≡ Some (call, made)
      → by_wait s line.def.devices (block_of call made) ≡ in_way line.def past (actors.Driver r)
  wait_told r call made due =
      ap (λ (x : StateSeen). by_wait x line.def.devices (block_of call made)) is.state
      ∙ (sym (of_wait line.def past is.valid is.legal (block_of call made))
      ∙ sym (ap (in_way_of_call line.def past) (call_is line.def past scripts is.calls is.at r ∙ due)))
