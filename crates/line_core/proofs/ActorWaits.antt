-- What an actor waits for, as its state says, is what it wants: a call's end, or the flow's end alone.
use Rattle.std.proofs.Common.{◌≡◌, inl, inr, ℕ, Bool, true, false, not, cond, option_map, Option, Some, None, List, refl, sym, ap, subst, ◌∙◌}
use Rattle.irq_base.specs.declared.calls.Call.{Call}
use Rattle.irq_base.specs.declared.devices.Part.TheVariants as parts
use Rattle.irq_base.specs.declared.entries.Actor.{Actor}
use Rattle.irq_base.specs.declared.entries.Actor.TheVariants as actors
use Rattle.irq_base.specs.declared.entries.Entry.{Entry}
use Rattle.irq_base.specs.declared.lines.LineDef.{LineDef}
use Rattle.irq_base.specs.declared.numbers.CpuNo.{CpuNo}
use Rattle.irq_base.specs.declared.numbers.DevNo.{DevNo}
use Rattle.irq_base.specs.declared.numbers.DriverNo.{DriverNo}
use Rattle.irq_base.specs.declared.waiting.WaitFor.TheVariants as waits
use Rattle.irq_laws.specs.Actors.{due_of_actor}
use Rattle.irq_laws.proofs.ImpliesDriver.{due_in_thread}
use Rattle.irq_laws.proofs.KeptAlways.{kept}
use Rattle.irq_laws.proofs.Standstill.{handler_wants_flow, wants_flow, wants_in_run}
use Rattle.irq_model.specs.Due.{calls_by, due_call}
use Rattle.irq_model.specs.Kinds.{made_by}
use Rattle.irq_model.specs.Legal.{IsLegalPast}
use Rattle.irq_model.specs.Lines.{has_device}
use Rattle.irq_model.specs.Next.{next_past, next_of_driver, next_of_thread, call_or_return}
use Rattle.irq_model.specs.Rounds.{at_work, flow, is_cpu}
use Rattle.irq_model.specs.Runs.{due_in_run}
use Rattle.irq_model.specs.Threads.{is_running}
use Rattle.irq_model.specs.Valid.{IsValid}
use Rattle.irq_model.specs.ValidRuns.{HasValidRuns}
use Rattle.irq_model.specs.Waits.{Want, flow_ends, nothing_wanted, wanted, wanted_of, wanted_at_work, StandsIn, WaitsFor}
use Rattle.device_table.specs.Rows.{at}
use Rattle.device_table.proofs.Tables.{at_device, at_none}
use Rattle.line_scripts.specs.Rows.{RowSeen, calls_of, place_of, within_of}
use Rattle.line_marks.proofs.DueIs.{call_is}
use Rattle.line_marks.proofs.Known.{no_thread}
use Rattle.line_marks.proofs.RunsAre.{thread_due_is}
use Rattle.line_marks.specs.Scripts.{IsAt}
use Rattle.line_marks.specs.State.{state_of}
use Rattle.line_marks.specs.Threads.{thread_of, threads_of, stage_by, has_returned, has_finished}
use Rattle.line_state.specs.Waits.{wait_of_due, wait_of_row, wait_at}
use Rattle.line_core.proofs.CallWaits.{IsHeld, driver_held}
use Rattle.line_core.proofs.Ways.{IsOnFlow}
use Rattle.line_core.specs.Hanging.{wait_of_actor}

-- an actor that has no step has a due call, or waits for processors alone
pub data Waiting (def : LineDef) (past : List Entry) (scripts : List (DriverNo × RowSeen)) (a : Actor) : Type 0 where
  in_call : (o : Option (Call × ℕ)) → due_of_actor def a past ≡ o → wanted def a past ≡ wanted_of o
      → wait_of_actor def (state_of def past) scripts a ≡ wait_of_due o
      → ((c : Call) (n : ℕ) → o ≡ Some (c, n) → IsHeld def past c n → next_past def past a ≡ None) → Waiting def past scripts a
  on_flow : IsOnFlow (wait_of_actor def (state_of def past) scripts a)
      → ((b : Actor) → WaitsFor def past a b → (c : CpuNo) × (b ≡ actors.Cpu c)) → Waiting def past scripts a

-- ---- who wants nothing, or the flow's end, waits for processors alone

pub wants_none : (def : LineDef) (past : List Entry) (a b : Actor) → wanted def a past ≡ nothing_wanted → WaitsFor def past a b → ⊥
wants_none def past a b h w = by_actor b (subst (λ (x : Want). StandsIn def past x b) h w.1)
  where
    by_actor : (b : Actor) → StandsIn def past nothing_wanted b → ⊥
    by_actor (actors.Thread d) s = s
    by_actor (actors.Cpu c) s = s
    by_actor (actors.Driver r) s = s

pub for_cpus : (def : LineDef) (past : List Entry) (a b : Actor) → wanted def a past ≡ flow_ends → WaitsFor def past a b → (c : CpuNo) × (b ≡ actors.Cpu c)
for_cpus def past a b h w = by_actor b (subst (λ (x : Want). StandsIn def past x b) h w.1)
  where
    by_actor : (b : Actor) → StandsIn def past flow_ends b → (c : CpuNo) × (b ≡ actors.Cpu c)
    by_actor (actors.Thread d) s = absurd s
    by_actor (actors.Cpu c) s = (c, refl)
    by_actor (actors.Driver r) s = absurd s

-- a processor waits for its own flow
pub cpu_waits : (def : LineDef) (past : List Entry) → HasValidRuns def → IsLegalPast def past → (c : CpuNo) (b : Actor)
    → WaitsFor def past (actors.Cpu c) b → (x : CpuNo) × (b ≡ actors.Cpu x)
cpu_waits def past runs legal c b w = by_flow (is_cpu c (flow def past)) refl
  where
    by_flow : (f : Bool) → is_cpu c (flow def past) ≡ f → (x : CpuNo) × (b ≡ actors.Cpu x)
    by_flow true is = for_cpus def past (actors.Cpu c) b (handler_wants_flow def past runs legal c is w.0) w
    by_flow false is =
        absurd (wants_none def past (actors.Cpu c) b
        (ap (λ (f : Bool). cond f (wanted_at_work def (at_work past) past) nothing_wanted) is) w)

module _ (def : LineDef) (past : List Entry) (valid : IsValid def) (runs : HasValidRuns def) (legal : IsLegalPast def past)
    (scripts : List (DriverNo × RowSeen)) (calls : (r : DriverNo) → calls_of scripts r ≡ calls_by r def.calls)
    (at_place : (r : DriverNo) → IsAt def past r (place_of scripts r) (within_of scripts r)) where
  driver_waiting : (r : DriverNo) → Waiting def past scripts (actors.Driver r)
  driver_waiting r =
      in_call (due_call def r past) refl refl (ap wait_of_due (sym (call_is def past scripts calls at_place r)))
      (λ c n is held. ap (next_of_driver def r past) is ∙ driver_held def past r c n held)

  cpu_waiting : (c : CpuNo) → Waiting def past scripts (actors.Cpu c)
  cpu_waiting c = on_flow (inl refl) (cpu_waits def past runs legal c)

  -- ---- a thread

  module _ (d : DevNo) where
    -- it isn't in a run
    not_running : is_running past d ≡ false → wait_of_actor def (state_of def past) scripts (actors.Thread d) ≡ waits.Nothing
        → Waiting def past scripts (actors.Thread d)
    not_running r waits_none = on_flow (inl waits_none) (λ b w. absurd (wants_none def past (actors.Thread d) b
        (ap (λ (x : Bool). cond (not x) nothing_wanted (cond (has_returned past d) flow_ends (wanted_of (due_in_run def parts.Thread d past)))) r) w))

    module _ (there : has_device def d ≡ true) where
      row : at (threads_of def past) d ≡ Some (thread_of past d)
      row = at_device (thread_of past) def.devices d there

      wait_is : wait_of_actor def (state_of def past) scripts (actors.Thread d)
          ≡ wait_at def (state_of def past) d (stage_by (is_running past d) (has_returned past d) (has_finished past d))
      wait_is = ap (wait_of_row def (state_of def past) d) row

      wait_so : (r t f : Bool) → is_running past d ≡ r → has_returned past d ≡ t → has_finished past d ≡ f
          → wait_of_actor def (state_of def past) scripts (actors.Thread d) ≡ wait_at def (state_of def past) d (stage_by r t f)
      wait_so r t f ir it jf = wait_is ∙ (ap (λ (b : Bool). wait_at def (state_of def past) d (stage_by b (has_returned past d) (has_finished past d))) ir
          ∙ (ap (λ (b : Bool). wait_at def (state_of def past) d (stage_by r b (has_finished past d))) it
          ∙ ap (λ (b : Bool). wait_at def (state_of def past) d (stage_by r t b)) jf))

      held_in_run : is_running past d ≡ true → has_returned past d ≡ false → (c : Call) (n : ℕ) → due_in_run def parts.Thread d past ≡ Some (c, n)
          → IsHeld def past c n → next_past def past (actors.Thread d) ≡ None
      held_in_run r t c n is held =
          ap (λ (b : Bool). cond b (next_of_thread def d past) None) there
          ∙ (in_run
          ∙ (ap (call_or_return def d past) is ∙ ap (option_map (made_by (actors.Thread d))) held.step))
        where
          in_run : next_of_thread def d past ≡ call_or_return def d past (due_in_run def parts.Thread d past)
          in_run = rw (r, t) refl

      by_stage : (r t f : Bool) → is_running past d ≡ r → has_returned past d ≡ t → has_finished past d ≡ f → Waiting def past scripts (actors.Thread d)
      by_stage false t f ir it jf = not_running ir (wait_so false t f ir it jf)
      by_stage true false f ir it jf =
          in_call (due_in_run def parts.Thread d past) (due_in_thread def d past ir it) (wants_in_run def past d ir it)
          (wait_so true false f ir it jf ∙ ap wait_of_due (thread_due_is def past d there it)) (held_in_run ir it)
      by_stage true true false ir it jf =
          on_flow (by_kind (state_of def past).desc.oneshot (wait_so true true false ir it jf))
          (λ b w. for_cpus def past (actors.Thread d) b (wants_flow def past d ir it) w)
        where
          by_kind : (o : Bool) → wait_of_actor def (state_of def past) scripts (actors.Thread d) ≡ cond o waits.Flow waits.Nothing
              → IsOnFlow (wait_of_actor def (state_of def past) scripts (actors.Thread d))
          by_kind true h = inr h
          by_kind false h = inl h
      by_stage true true true ir it jf =
          on_flow (inl (wait_so true true true ir it jf)) (λ b w. for_cpus def past (actors.Thread d) b (wants_flow def past d ir it) w)

  thread_waiting : (d : DevNo) → Waiting def past scripts (actors.Thread d)
  thread_waiting d = by_device (has_device def d) refl
    where
      by_device : (b : Bool) → has_device def d ≡ b → Waiting def past scripts (actors.Thread d)
      by_device true there = by_stage d there (is_running past d) (has_returned past d) (has_finished past d) refl refl refl
      by_device false gone =
          let none = no_thread def past d (kept def past valid legal) gone in
          not_running d none.0 (ap (wait_of_row def (state_of def past) d) (at_none (thread_of past) def.devices d gone))

  pub waiting : (a : Actor) → Waiting def past scripts a
  waiting (actors.Thread d) = thread_waiting d
  waiting (actors.Cpu c) = cpu_waiting c
  waiting (actors.Driver r) = driver_waiting r
