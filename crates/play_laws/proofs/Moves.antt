-- The processor of a flow has a step, or waits for itself. Where nobody is hung, no flow and no thread is left.
use Rattle.std.proofs.Common.{◌≡◌, true, false, ◌||◌, ◌⊎◌, inl, inr, IsSome, Option, Some, None, is_some, List, refl, ap}
use Rattle.std.proofs.lemmas.Bool.{false_from_ne_true}
use Rattle.irq_base.specs.declared.numbers.CpuNo.{CpuNo}
use Rattle.irq_base.specs.declared.numbers.DevNo.{DevNo}
use Rattle.irq_base.specs.declared.lines.LineDef.{LineDef}
use Rattle.irq_base.specs.declared.entries.Actor.{Actor}
use Rattle.irq_base.specs.declared.entries.Actor.TheVariants as actors
use Rattle.irq_base.specs.declared.entries.Entry.{Entry}
use Rattle.irq_model.specs.Rounds.{flow, has_flow, is_cpu}
use Rattle.irq_model.specs.Threads.{is_woken, is_running}
use Rattle.irq_model.specs.Next.{next_past}
use Rattle.irq_model.specs.Legal.{IsLegalPast}
use Rattle.irq_model.specs.Valid.{IsValid}
use Rattle.irq_model.specs.ValidRuns.{HasValidRuns}
use Rattle.irq_model.specs.Waits.{IsHungPast, IsCaughtPast, NobodyEndsWaits}
use Rattle.irq_laws.proofs.Standstill.{flow_hung, is_its_cpu, no_standstill}

pub flow_goes_on : (def : LineDef) (past : List Entry) → HasValidRuns def → IsLegalPast def past → (c : CpuNo) → is_cpu c (flow def past) ≡ true
    → IsSome (next_past def past (actors.Cpu c)) ⊎ IsHungPast def past (actors.Cpu c)
flow_goes_on def past runs legal c its = by_next (next_past def past (actors.Cpu c)) refl
  where
    by_next : (o : Option Entry) → next_past def past (actors.Cpu c) ≡ o
        → IsSome (next_past def past (actors.Cpu c)) ⊎ IsHungPast def past (actors.Cpu c)
    by_next (Some e) is = inl (ap is_some is)
    by_next None none = inr (flow_hung def past runs legal c (is_its_cpu c (flow def past) its) none)

pub no_flow_left : (def : LineDef) (past : List Entry) → HasValidRuns def → IsLegalPast def past
    → ((c : CpuNo) → next_past def past (actors.Cpu c) ≡ None) → ((c : CpuNo) → IsHungPast def past (actors.Cpu c) → ⊥) → has_flow def past ≡ false
no_flow_left def past runs legal still unhung = by_flow (flow def past) refl
  where
    by_flow : (o : Option CpuNo) → flow def past ≡ o → is_some (flow def past) ≡ false
    by_flow None none = ap is_some none
    by_flow (Some c) its = absurd (unhung c (flow_hung def past runs legal c its (still c)))

pub nobody_caught : (def : LineDef) (past : List Entry) → ((a : Actor) → IsHungPast def past a → ⊥) → (a : Actor) → IsCaughtPast def past a → ⊥
nobody_caught def past unhung a (inl hung) = unhung a hung
nobody_caught def past unhung a (inr (n, b, through, hung)) = unhung b hung

pub no_thread_left : (def : LineDef) (past : List Entry) → IsValid def → HasValidRuns def → IsLegalPast def past → NobodyEndsWaits def past
    → ((a : Actor) → IsHungPast def past a → ⊥) → (d : DevNo) → (is_woken past d || is_running past d) ≡ false
no_thread_left def past valid runs legal ends unhung d =
    false_from_ne_true (is_woken past d || is_running past d) (λ is.
    nobody_caught def past unhung (actors.Thread d)
    (no_standstill def past valid runs legal ends (actors.Thread d) is (ends.threads d)))
