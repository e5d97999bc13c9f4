-- What is asked of a line is what its state says.
use Rattle.std.proofs.Common.{◌≤◌, ◌≡◌, ◌↔◌, ℕ, option_map, Bool, true, false, not, ◌||◌, ◌&&◌, cond, is_some, Option}
use Rattle.std.proofs.Common.{Some, None, List, refl, sym, ap, subst, ◌∙◌}
use Rattle.std.proofs.lemmas.Bool.{false≢true}
use Rattle.std.proofs.lemmas.Option.{none-some, same_Some}
use Rattle.std.specs.Prelude.{IsTrue, IsSome}
use Rattle.irq_base.specs.Cell.{signals}
use Rattle.irq_base.specs.declared.calls.Call.{Call}
use Rattle.irq_base.specs.declared.devices.Part.TheVariants as parts
use Rattle.irq_base.specs.declared.entries.Actor.TheVariants as actors
use Rattle.irq_base.specs.declared.entries.CallEntry.{CallEntry}
use Rattle.irq_base.specs.declared.entries.Entry.{Entry}
use Rattle.irq_base.specs.declared.entries.Entry.TheVariants as by
use Rattle.irq_base.specs.declared.entries.CpuEntry.TheVariants as cpus
use Rattle.irq_base.specs.declared.entries.Way.TheVariants as ways
use Rattle.irq_base.specs.declared.lines.LineDef.{LineDef}
use Rattle.irq_base.specs.declared.numbers.CpuNo.{CpuNo}
use Rattle.irq_base.specs.declared.numbers.DevNo.{DevNo}
use Rattle.irq_model.specs.Kinds.{is_take, same_cpu}
use Rattle.irq_model.specs.Legal.{IsLegalPast}
use Rattle.irq_model.specs.Next.{next_past}
use Rattle.irq_model.specs.Rounds.{is_cpu}
use Rattle.irq_model.specs.Signal.{lowest_in}
use Rattle.irq_model.specs.Valid.{IsValid}
use Rattle.irq_model.specs.ValidRuns.{HasValidRuns}
use Rattle.irq_model.proofs.Same.{same_self_cpu, cpu_from_same}
use Rattle.act_list.specs.Lists.{first_left}
use Rattle.irq_line.specs.Queries.{is_some_take}
use Rattle.line_marks.proofs.CpuDueIs.{cpu_due_is}
use Rattle.line_marks.proofs.DueIs.{thread_is}
use Rattle.line_marks.specs.Calls.{step_by}
use Rattle.line_marks.specs.Runs.{due_in_run_at}
use Rattle.line_marks.specs.CpuDue.{in_flow_by, begin_or_end_by, handler_or_return_by, next_take_by, take_by}
use Rattle.line_marks.specs.State.{StateSeen, state_of}
use Rattle.line_marks.specs.Threads.{threads_of}
use Rattle.line_state.proofs.Could.{due_there, is_due}
use Rattle.line_state.proofs.LowestOf.{Below, of_below, of_passes}
use Rattle.line_state.specs.Seen.{taker_of, unless_in_flow, lowest_due}

-- ---- takes

flow_takes_none : (def : LineDef) (s : StateSeen) (c : CpuNo) (o : Option DevNo) → is_some_take (in_flow_by def s c o) ≡ false
flow_takes_none def s c (Some d) = by_due (due_in_run_at def s parts.Primary d)
  where
    by_step : (o : Option CallEntry) → is_some_take (option_map (by.CpuCall c) o) ≡ false
    by_step None = refl
    by_step (Some call) = refl

    by_due : (o : Option (Call × ℕ)) → is_some_take (handler_or_return_by def s c d o) ≡ false
    by_due None = refl
    by_due (Some due) = by_step (step_by def s due)
flow_takes_none def s c None = by_left (first_left s.list.begun s.list.actions)
  where
    by_left : (o : Option DevNo) → is_take (begin_or_end_by def s c o) ≡ false
    by_left (Some d) = refl
    by_left None = refl

take_told : (s : StateSeen) (c : CpuNo) (target line soft : Bool)
    → is_some_take (cond (not target) None (cond line (Some (by.Cpu c (cpus.Take ways.Line (take_by s))))
    (cond soft (Some (by.Cpu c (cpus.Take ways.Resend (take_by s)))) None))) ≡ (target && (line || soft))
take_told s c true true soft = refl
take_told s c true false true = refl
take_told s c true false false = refl
take_told s c false line soft = refl

due_told : (def : LineDef) (s : StateSeen) (c : CpuNo) (b : Bool) → is_cpu c s.desc.flow ≡ b
    → is_some_take (cond b (in_flow_by def s c s.round.working) (next_take_by s c))
    ≡ (not b && (is_cpu c (lowest_in s.aim.cpus s.aim.mask) && (signals s.cell || s.desc.soft)))
due_told def s c true is = flow_takes_none def s c s.round.working
due_told def s c false is = take_told s c (is_cpu c (lowest_in s.aim.cpus s.aim.mask)) (signals s.cell) s.desc.soft

no_take : (x y : Bool) → IsTrue (not x && (y && false)) → ⊥
no_take true y h = false≢true h
no_take false true h = false≢true h
no_take false false h = false≢true h

no_target : (x g : Bool) → IsTrue (not x && (false && g)) → ⊥
no_target true g h = false≢true h
no_target false g h = false≢true h

-- the target takes if something waits, and it isn't in the flow
module _ (s : StateSeen) (c : CpuNo) where
  by_target : (t : CpuNo) (b : Bool) → is_cpu t s.desc.flow ≡ b → (e : Bool) → same_cpu c t ≡ e
      → (cond b None (Some t) ≡ Some c) ↔ IsTrue (not (is_cpu c s.desc.flow) && (e && true))
  by_target t true busy true same = (
    λ h. absurd (none-some c h),
    λ h. absurd (false≢true (ap (λ x. not x && true) (sym (ap (λ (x : CpuNo). is_cpu x s.desc.flow) (cpu_from_same c t same) ∙ busy)) ∙ h)),
  )
  by_target t true busy false other = (λ h. absurd (none-some c h), λ h. absurd (no_target (is_cpu c s.desc.flow) true h))
  by_target t false busy true same = (
    λ h. ap (λ x. not x && true) (ap (λ (x : CpuNo). is_cpu x s.desc.flow) (cpu_from_same c t same) ∙ busy),
    λ h. ap Some (sym (cpu_from_same c t same)),
  )
  by_target t false busy false other =
      (λ h. absurd (false≢true (sym other ∙ (ap (same_cpu c) (same_Some t c h) ∙ same_self_cpu c))), λ h. absurd (no_target (is_cpu c s.desc.flow) true h))

  taker_told : (g : Bool) (o : Option CpuNo) → (cond g (unless_in_flow s o) None ≡ Some c) ↔ IsTrue (not (is_cpu c s.desc.flow) && (is_cpu c o && g))
  taker_told false o = (λ h. absurd (none-some c h), λ h. absurd (no_take (is_cpu c s.desc.flow) (is_cpu c o) h))
  taker_told true None = (λ h. absurd (none-some c h), λ h. absurd (no_target (is_cpu c s.desc.flow) true h))
  taker_told true (Some t) = by_target t (is_cpu t s.desc.flow) refl (same_cpu c t) refl

module _ (def : LineDef) (past : List Entry) (valid : IsValid def) (runs : HasValidRuns def) (legal : IsLegalPast def past) where
  pub is_taker : (c : CpuNo) → (taker_of (state_of def past) ≡ Some c) ↔ IsTrue (is_some_take (next_past def past (actors.Cpu c)))
  is_taker c =
      let told : is_some_take (next_past def past (actors.Cpu c))
      ≡ _ = ap is_some_take (cpu_due_is def past c valid legal)
      ∙ due_told def (state_of def past) c (is_cpu c (state_of def past).desc.flow) refl in
      let both = taker_told (state_of def past) c (signals (state_of def past).cell || (state_of def past).desc.soft)
      (lowest_in (state_of def past).aim.cpus (state_of def past).aim.mask) in
      (λ h. told ∙ both.0 h, λ h. both.1 (sym told ∙ h))

  abbrev pub IsDueThread : DevNo → Type 0
  IsDueThread d = IsSome (next_past def past (actors.Thread d))

  abbrev pub IsLowest : Option DevNo → Type 0
  IsLowest None = (d : DevNo) → IsDueThread d → ⊥
  IsLowest (Some l) = IsDueThread l × ((d : DevNo) → IsDueThread d → l.0 ≤ d.0)

  pub is_lowest : IsLowest (lowest_due def (state_of def past))
  is_lowest = by_lowest (lowest_due def (state_of def past)) refl
    where
      due_so : (d : DevNo) → is_some (next_past def past (actors.Thread d)) ≡ is_due def (state_of def past) d
      due_so d = ap is_some (thread_is def past d valid legal)

      below : (d : DevNo) → IsDueThread d → Below (lowest_due def (state_of def past)) d
      below d due =
          let is : is_due def (state_of def past) d ≡ true = sym (due_so d) ∙ due in
          of_below (is_due def (state_of def past)) (threads_of def past) d (due_there def (state_of def past) d is) is

      by_lowest : (o : Option DevNo) → lowest_due def (state_of def past) ≡ o → IsLowest o
      by_lowest None is = λ d due. subst (λ (o : Option DevNo). Below o d) is (below d due)
      by_lowest (Some l) is = (
        due_so l ∙ (of_passes (is_due def (state_of def past)) (threads_of def past) l is).1,
        λ d due. subst (λ (o : Option DevNo). Below o d) is (below d due),
      )
