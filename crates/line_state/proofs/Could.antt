-- A thread with an entry due could step; and one that could step has an entry due, where no run may wait. Nor does a processor spin then.
use Rattle.std.proofs.Common.{◌≡◌, ℕ, Bool, true, false, not, ◌||◌, ◌&&◌, cond, is_some, is_none, option_map, Option, Some, None, List, refl, sym, ap}
use Rattle.std.proofs.Common.{subst, ◌∙◌}
use Rattle.std.specs.List.{list_any}
use Rattle.irq_base.specs.declared.calls.Call.{Call}
use Rattle.irq_base.specs.declared.devices.Part.TheVariants as parts
use Rattle.irq_base.specs.declared.entries.Entry.{Entry}
use Rattle.irq_base.specs.declared.entries.Entry.TheVariants as by
use Rattle.irq_base.specs.declared.lines.LineDef.{LineDef}
use Rattle.irq_base.specs.declared.numbers.CpuNo.{CpuNo}
use Rattle.irq_base.specs.declared.numbers.DevNo.{DevNo}
use Rattle.irq_model.specs.Lines.{has_device}
use Rattle.irq_model.specs.Rounds.{is_cpu}
use Rattle.irq_model.specs.ValidRuns.{HasValidRuns, may_wait}
use Rattle.irq_model.proofs.Same.{same_self_cpu}
use Rattle.device_table.specs.Rows.{at, has, lowest_where}
use Rattle.act_thread.specs.Steps.{could_step, steps_at, is_returned_stage}
use Rattle.act_thread.specs.Threads.{row_passes, AreRows}
use Rattle.act_thread.specs.declared.rows.Stage.{Stage}
use Rattle.act_thread.specs.declared.rows.Stage.TheVariants as stages
use Rattle.act_thread.specs.declared.rows.ThreadRow.{ThreadRow}
use Rattle.desc_state.specs.Desc.{DescSeen}
use Rattle.line_marks.specs.Calls.{step_by}
use Rattle.line_marks.specs.CpuDue.{in_flow_by, handler_or_return_by, next_take_by}
use Rattle.line_marks.specs.Due.{call_or_return_by, due_at_stage, due_of_row, thread_due}
use Rattle.line_marks.specs.Runs.{due_in_run_at}
use Rattle.line_marks.specs.State.{StateSeen}
use Rattle.line_state.specs.Seen.{LineStateSeen, IsScripted, may_go_on, lowest_of, lowest_due, spins_in}
use Rattle.line_state.proofs.Goes.{run_goes, some_step}
use Rattle.line_state.proofs.LowestOf.{Below, of_below, of_passes, of_none, of_least, where_is_of}

or_none : (a b : Bool) → a ≡ (a || (b && false))
or_none true b = refl
or_none false true = refl
or_none false false = refl

goes_so : (o f : Bool) (x y : Entry) → is_some (cond o (cond f None (Some x)) (Some y)) ≡ ((not o || not f) && true)
goes_so true true x y = refl
goes_so true false x y = refl
goes_so false f x y = refl

wakes_so : (w : Bool) (x : Entry) → is_some (cond w (Some x) None) ≡ w
wakes_so true x = refl
wakes_so false x = refl

-- a step that is told by a part of it
pub told_some : {A B : Type 0} (f : A → B) (o : Option A) (p : Option B) (b : Bool) → option_map f o ≡ p → is_some o ≡ b → is_some p ≡ b
told_some f None p b h is = ap is_some (sym h) ∙ is
told_some f (Some x) p b h is = ap is_some (sym h) ∙ is

pub goes_unless_oneshot : (d : DescSeen) → d.oneshot ≡ false → true ≡ may_go_on d
goes_unless_oneshot d h = sym (ap (λ (b : Bool). not b || not (is_some d.flow)) h)

pub goes_without_flow : (d : DescSeen) (o : Option CpuNo) (b : Bool) → d.oneshot ≡ true → o ≡ d.flow → is_some o ≡ not b → b ≡ may_go_on d
goes_without_flow d o b h flow told =
    twice b ∙ (ap not (sym told ∙ ap is_some flow) ∙ sym (ap (λ (x : Bool). not x || not (is_some d.flow)) h))
  where
    twice : (x : Bool) → x ≡ not (not x)
    twice true = refl
    twice false = refl

module _ (def : LineDef) (s : StateSeen) where
  abbrev could : DevNo → Bool
  could d = row_passes (could_step (may_go_on s.desc)) false (at s.threads d)

  abbrev pub is_due : DevNo → Bool
  is_due d = is_some (thread_due def s d)

  abbrev could_at : Bool → Stage → Bool
  could_at woken stage = steps_at woken stage || (may_go_on s.desc && is_returned_stage stage)

  module _ (d : DevNo) (r : ThreadRow) where
    idle_so : is_some (due_at_stage def stages.Idle s d r) ≡ could_at r.woken stages.Idle
    idle_so = wakes_so r.woken _ ∙ or_none r.woken (may_go_on s.desc)

    returned_so : is_some (due_at_stage def stages.Returned s d r) ≡ could_at r.woken stages.Returned
    returned_so = goes_so s.desc.oneshot (is_some s.desc.flow) _ _

    stage_could : (stage : Stage) → is_some (due_at_stage def stage s d r) ≡ true → could_at r.woken stage ≡ true
    stage_could stages.Idle h = sym idle_so ∙ h
    stage_could stages.Begun h = refl
    stage_could stages.Returned h = sym returned_so ∙ h
    stage_could stages.Finished h = refl

    stage_so : (stage : Stage) → is_some (call_or_return_by def s d (due_in_run_at def s parts.Thread d)) ≡ true
        → is_some (due_at_stage def stage s d r) ≡ could_at r.woken stage
    stage_so stages.Idle goes = idle_so
    stage_so stages.Begun goes = goes
    stage_so stages.Returned goes = returned_so
    stage_so stages.Finished goes = refl

  due_could : (d : DevNo) → is_due d ≡ true → could d ≡ true
  due_could d h = by_row (at s.threads d) h
    where
      by_row : (o : Option ThreadRow) → is_some (due_of_row def s d o) ≡ true → row_passes (could_step (may_go_on s.desc)) false o ≡ true
      by_row None h = h
      by_row (Some r) h = stage_could d r r.stage h

  pub due_there : (d : DevNo) → is_due d ≡ true → has s.threads d ≡ true
  due_there d h = by_row (at s.threads d) h
    where
      by_row : (o : Option ThreadRow) → is_some (due_of_row def s d o) ≡ true → is_some o ≡ true
      by_row None h = h
      by_row (Some r) h = refl

  module _ (rows : AreRows s.threads) where
    seen : lowest_where (could_step (may_go_on s.desc)) s.threads ≡ lowest_of could s.threads
    seen = where_is_of (could_step (may_go_on s.desc)) s.threads rows.own

    -- no thread could step
    pub none_due : None ≡ lowest_where (could_step (may_go_on s.desc)) s.threads → None ≡ lowest_due def s
    none_due h = sym (of_none is_due s.threads (λ d there. by_test d (is_due d) refl))
      where
        by_test : (d : DevNo) (b : Bool) → is_due d ≡ b → b ≡ false
        by_test d true is =
            absurd (subst (λ (o : Option DevNo). Below o d) (sym (h ∙ seen)) (of_below could s.threads d (due_there d is) (due_could d is)))
        by_test d false is = refl

    -- the lowest that could step has an entry due
    pub lowest_is_due : (l : DevNo) → Some l ≡ lowest_where (could_step (may_go_on s.desc)) s.threads → is_due l ≡ true → Some l ≡ lowest_due def s
    lowest_is_due l h is = sym (of_least is_due s.threads l (due_there l is) is
        (λ d there due. subst (λ (o : Option DevNo). Below o d) (sym (h ∙ seen)) (of_below could s.threads d there (due_could d due))))

module _ (def : LineDef) (l : LineStateSeen) (runs : HasValidRuns def) (scripted : IsScripted def l)
    (unwaiting : list_any may_wait l.fixed.calls.items ≡ false) where
  thread_goes : (d : DevNo) → has_device def d ≡ true → (o : Option (Call × ℕ)) → due_in_run_at def l.state parts.Thread d ≡ o
      → is_some (call_or_return_by def l.state d o) ≡ true
  thread_goes d there None is = refl
  thread_goes d there (Some due) is =
      some_step (by.ThreadCall d) (step_by def l.state due) (run_goes def l runs scripted unwaiting d parts.Thread there due is).step

  could_due : (d : DevNo) → could def l.state d ≡ true → is_due def l.state d ≡ true
  could_due d h = by_row (at l.state.threads d) refl h
    where
      by_row : (o : Option ThreadRow) → at l.state.threads d ≡ o → row_passes (could_step (may_go_on l.state.desc)) false o ≡ true
          → is_some (due_of_row def l.state d o) ≡ true
      by_row None is h = h
      by_row (Some r) is h =
          let there : has_device def d ≡ true = scripted.threads d r is in
          stage_so def l.state d r r.stage (thread_goes d there (due_in_run_at def l.state parts.Thread d) refl) ∙ h

  -- where no run may wait, it has
  pub lowest_could : AreRows l.state.threads → (d : DevNo) → Some d ≡ lowest_where (could_step (may_go_on l.state.desc)) l.state.threads
      → Some d ≡ lowest_due def l.state
  lowest_could rows d h =
      let passes = of_passes (could def l.state) l.state.threads d (sym (h ∙ seen def l.state rows)) in
      lowest_is_due def l.state rows d h (could_due d passes.1)

  handler_goes : (c : CpuNo) (w : Option DevNo) → l.state.round.working ≡ w → is_none (in_flow_by def l.state c w) ≡ false
  handler_goes c None is = refl
  handler_goes c (Some d) is = by_due (due_in_run_at def l.state parts.Primary d) refl
    where
      made : (o : Option Entry) → is_some o ≡ true → is_none o ≡ false
      made None h = cc
      made (Some e) h = refl

      by_due : (o : Option (Call × ℕ)) → due_in_run_at def l.state parts.Primary d ≡ o → is_none (handler_or_return_by def l.state c d o) ≡ false
      by_due None h = refl
      by_due (Some due) h =
          made (option_map (by.CpuCall c) (step_by def l.state due)) (some_step (by.CpuCall c) (step_by def l.state due)
          (run_goes def l runs scripted unwaiting d parts.Primary (scripted.working d is) due h).step)

  pub spins_not : spins_in def l.state l.state.desc.flow ≡ false
  spins_not = by_flow l.state.desc.flow refl
    where
      by_flow : (o : Option CpuNo) → l.state.desc.flow ≡ o → spins_in def l.state o ≡ false
      by_flow None is = refl
      by_flow (Some c) is =
          ap (λ (b : Bool). is_none (cond b (in_flow_by def l.state c l.state.round.working) (next_take_by l.state c)))
          (ap (is_cpu c) is ∙ same_self_cpu c) ∙ handler_goes c l.state.round.working refl
