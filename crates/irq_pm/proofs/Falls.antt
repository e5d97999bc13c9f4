-- A disable that isn't complete goes on once the line's threads and processors rest.
use Rattle.std.proofs.Common.{◌≡◌, ℕ, ◌==◌, ◌⊎◌, inl, inr, Option, is_some, sym, Bool, true, false, not, ◌||◌, cond}
use Rattle.std.proofs.Common.{IsSome, Some, None, List, [], ◌∷◌, reverse, refl, ap, ◌∙◌}
use Rattle.std.specs.List.{list_any}
use Rattle.std.proofs.lemmas.Bool.{or_from, or_left, or_right}
use Rattle.irq_base.specs.declared.devices.DeviceDef.{DeviceDef}
use Rattle.irq_base.specs.declared.numbers.CpuNo.{CpuNo}
use Rattle.irq_base.specs.declared.numbers.DevNo.{DevNo}
use Rattle.irq_base.specs.declared.numbers.DriverNo.{DriverNo}
use Rattle.irq_base.specs.declared.calls.Call.{Call}
use Rattle.irq_base.specs.declared.calls.Call.TheVariants as calls
use Rattle.irq_base.specs.declared.devices.Part.TheVariants as parts
use Rattle.irq_base.specs.declared.lines.LineDef.{LineDef}
use Rattle.irq_base.specs.declared.entries.Actor.TheVariants as actors
use Rattle.irq_base.specs.declared.entries.Entry.{Entry}
use Rattle.irq_base.specs.declared.waiting.WaitFor.TheVariants as waits
use Rattle.irq_model.specs.Lines.{is_device, has_device}
use Rattle.irq_model.specs.Links.{is_oneshot}
use Rattle.irq_model.specs.Rounds.{flow, has_flow, is_cpu, at_work}
use Rattle.irq_model.specs.Runs.{due_in_run}
use Rattle.irq_model.specs.ValidRuns.{HasValidRuns}
use Rattle.irq_model.specs.Threads.{is_woken, is_running}
use Rattle.irq_model.specs.Due.{due_call}
use Rattle.irq_model.specs.Next.{next, next_past, next_in_flow, next_take, next_of_thread, handler_or_return, call_or_return}
use Rattle.irq_laws.specs.Blocks.{block_of, stands_in_way}
use Rattle.irq_model.proofs.Same.{same_self, same_self_cpu}
use Rattle.irq_laws.proofs.Lists.{both_ways}
use Rattle.irq_laws.proofs.ImpliesThread.{has_returned, has_finished}
use Rattle.irq_laws.proofs.Standstill.{row_none}
use Rattle.irq_pm.specs.Sleeping.{has_calm_runs}
use Rattle.irq_pm.proofs.CalmLines.{run_goes_on}
use Rattle.irq_laws.proofs.BlockLaws.{freed_waits}

none_at_work : (p : DevNo → Bool) (xs : List DeviceDef) → ((d : DevNo) → list_any (is_device d) xs ≡ true → p d ≡ false)
    → list_any (λ x. p x.dev) xs ≡ false
none_at_work p [] h = refl
none_at_work p (x ∷ xs) h =
    or_from (p x.dev) (list_any (λ y. p y.dev) xs) (h x.dev (or_left _ _ (same_self x.dev)))
    (none_at_work p xs (λ d there. h d (or_right _ _ there)))

-- a processor in a flow has a step
no_flow_still : (def : LineDef) (past : List Entry) → has_calm_runs def ≡ true → HasValidRuns def → ((c : CpuNo) → next_past def past (actors.Cpu c) ≡ None)
    → has_flow def past ≡ false
no_flow_still def past calm runs still = by_flow (flow def past) refl
  where
    in_run : (c : CpuNo) (d : DevNo) (o : Option (Call × ℕ)) → due_in_run def parts.Primary d past ≡ o → handler_or_return def c d past o ≡ None → ⊥
    in_run c d None is h = cc
    in_run c d (Some (x, n)) is h = run_goes_on def past parts.Primary d (actors.Cpu c) x n calm runs is h

    at : (c : CpuNo) (o : Option DevNo) → next_in_flow def c past o ≡ None → ⊥
    at c None h = cc
    at c (Some d) h = in_run c d (due_in_run def parts.Primary d past) refl h

    by_flow : (o : Option CpuNo) → flow def past ≡ o → has_flow def past ≡ false
    by_flow None is = ap is_some is
    by_flow (Some c) is =
        let own : is_cpu c (flow def past) ≡ true = ap (is_cpu c) is ∙ same_self_cpu c in
        absurd (at c (at_work past) (sym (ap (λ (b : Bool). cond b (next_in_flow def c past (at_work past)) (next_take def c past)) own) ∙ still c))

-- the thread of a device of the line rests
device_rests : (def : LineDef) (past : List Entry) → has_calm_runs def ≡ true → HasValidRuns def → has_flow def past ≡ false
    → ((d : DevNo) → next_past def past (actors.Thread d) ≡ None) → (d : DevNo) → has_device def d ≡ true
    → (is_woken past d ≡ false) × (is_running past d ≡ false)
device_rests def past calm runs idle still d there =
    by_row (row_none (is_running past d) (is_woken past d) (has_returned past d) (is_oneshot past) (has_finished past d) (has_flow def past) _ _ _ _ none)
  where
    none : next_of_thread def d past ≡ None
    none = ap (λ (b : Bool). cond b (next_of_thread def d past) None) (sym there) ∙ still d

    in_run : (o : Option (Call × ℕ)) → due_in_run def parts.Thread d past ≡ o → call_or_return def d past o ≡ None → ⊥
    in_run None is h = cc
    in_run (Some (x, n)) is h = run_goes_on def past parts.Thread d (actors.Thread d) x n calm runs is h

    by_row : ((is_running past d ≡ false) × (is_woken past d ≡ false)) ⊎ (((is_running past d ≡ true) × (has_returned past d ≡ false)
        × (call_or_return def d past (due_in_run def parts.Thread d past) ≡ None))
        ⊎ ((is_running past d ≡ true) × (has_returned past d ≡ true) × (has_flow def past ≡ true)))
        → (is_woken past d ≡ false) × (is_running past d ≡ false)
    by_row (inl h) = (h.1, h.0)
    by_row (inr (inl h)) = absurd (in_run (due_in_run def parts.Thread d past) refl h.2)
    by_row (inr (inr h)) = both_ways (has_flow def past) h.2 idle

nothing_in_way : (def : LineDef) (past : List Entry) → has_flow def past ≡ false
    → ((d : DevNo) → has_device def d ≡ true → (is_woken past d ≡ false) × (is_running past d ≡ false)) → (n : ℕ)
    → stands_in_way def past (block_of calls.Disable n) ≡ false
nothing_in_way def past idle rest n = by_tests (n == 0) (n == 1)
  where
    by_tests : (z o : Bool) → stands_in_way def past (cond z waits.Nothing (cond o waits.Flow waits.Threads)) ≡ false
    by_tests true o = refl
    by_tests false true = idle
    by_tests false false =
        none_at_work (λ d. is_woken past d || is_running past d) def.devices
        (λ d there. let n = rest d there in or_from (is_woken past d) (is_running past d) n.0 n.1)

pub falls_asleep : (def : LineDef) (h : List Entry) (r : DriverNo) (n : ℕ) → HasValidRuns def → has_calm_runs def ≡ true
    → ((d : DevNo) → next def h (actors.Thread d) ≡ None)
    → ((c : CpuNo) → next def h (actors.Cpu c) ≡ None)
    → due_call def r (reverse h) ≡ Some (calls.Disable, n) → IsSome (next def h (actors.Driver r))
falls_asleep def h r n runs calm threads cpus is =
    let idle = no_flow_still def (reverse h) calm runs cpus in
    freed_waits def (reverse h) r calls.Disable n tt is
    ∙ ap not (nothing_in_way def (reverse h) idle (device_rests def (reverse h) calm runs idle threads) n)
