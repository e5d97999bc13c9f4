-- Where no run may wait, nobody is hung.
use Rattle.std.proofs.Common.{◌≡◌, inl, inr, ℕ, Bool, true, false, cond, Option, Some, None, List, refl, sym, ap, ◌∙◌}
use Rattle.std.specs.List.{list_any}
use Rattle.irq_base.specs.declared.calls.Call.{Call}
use Rattle.irq_base.specs.declared.devices.Part.TheVariants as parts
use Rattle.irq_base.specs.declared.entries.Actor.TheVariants as actors
use Rattle.irq_base.specs.declared.lines.LineDef.{LineDef}
use Rattle.irq_base.specs.declared.numbers.DevNo.{DevNo}
use Rattle.irq_base.specs.declared.numbers.DriverNo.{DriverNo}
use Rattle.irq_base.specs.declared.waiting.WaitFor.TheVariants as waits
use Rattle.irq_model.specs.ValidRuns.{HasValidRuns, may_wait}
use Rattle.device_table.specs.Rows.{at}
use Rattle.act_thread.specs.declared.rows.Stage.{Stage}
use Rattle.act_thread.specs.declared.rows.Stage.TheVariants as stages
use Rattle.act_thread.specs.declared.rows.ThreadRow.{ThreadRow}
use Rattle.line_scripts.specs.Rows.{RowSeen}
use Rattle.line_marks.specs.Runs.{due_in_run_at}
use Rattle.line_state.proofs.Could.{spins_not}
use Rattle.line_state.proofs.Goes.{run_goes}
use Rattle.line_state.proofs.LowestOf.{of_none}
use Rattle.line_state.specs.Seen.{LineStateSeen, IsScripted}
use Rattle.line_state.specs.Waits.{wait_at, wait_of_due, wait_of_row, wait_of_thread}
use Rattle.line_core.proofs.Ways.{IsOnFlow, flow_leads}
use Rattle.line_core.specs.Hanging.{hung_actor, is_thread_hung, lowest_hung_by, spinning_in}

module _ (def : LineDef) (l : LineStateSeen) (runs : HasValidRuns def) (scripted : IsScripted def l)
    (unwaiting : list_any may_wait l.fixed.calls.items ≡ false) where
  due_waits : (d : DevNo) (r : ThreadRow) → at l.state.threads d ≡ Some r → (o : Option (Call × ℕ)) → due_in_run_at def l.state parts.Thread d ≡ o
      → wait_of_due o ≡ waits.Nothing
  due_waits d r there None is = refl
  due_waits d r there (Some due) is = (run_goes def l runs scripted unwaiting d parts.Thread (scripted.threads d r there) due is).unblocked

  stage_waits : (d : DevNo) (r : ThreadRow) → at l.state.threads d ≡ Some r → (stage : Stage) → IsOnFlow (wait_at def l.state d stage)
  stage_waits d r there stages.Idle = inl refl
  stage_waits d r there stages.Begun = inl (due_waits d r there (due_in_run_at def l.state parts.Thread d) refl)
  stage_waits d r there stages.Returned = by_kind l.state.desc.oneshot
    where
      by_kind : (b : Bool) → IsOnFlow (cond b waits.Flow waits.Nothing)
      by_kind true = inr refl
      by_kind false = inl refl
  stage_waits d r there stages.Finished = inl refl

  thread_waits : (d : DevNo) → IsOnFlow (wait_of_thread def l.state d)
  thread_waits d = by_row (at l.state.threads d) refl
    where
      by_row : (o : Option ThreadRow) → at l.state.threads d ≡ o → IsOnFlow (wait_of_row def l.state d o)
      by_row None is = inl refl
      by_row (Some r) is = stage_waits d r is r.stage

  pub none_hung : (scripts : List (DriverNo × RowSeen)) → None ≡ lowest_hung_by def l.state scripts
  none_hung scripts =
      let threads = of_none (is_thread_hung def l.state scripts) l.state.threads
      (λ d there. flow_leads def l.state scripts d 3 (actors.Thread d) (thread_waits d)) in
      let flow : spinning_in def l.state ≡ None = ap (λ (b : Bool). cond b l.state.desc.flow None) (spins_not def l runs scripted unwaiting) in
      sym (ap (λ (o : Option DevNo). hung_actor o (spinning_in def l.state)) threads ∙ ap (hung_actor None) flow)
