-- What a line keeps while a driver has it asleep.
use Rattle.std.proofs.Common.{◌≡◌, ◌+◌, Bool, true, false, ◌||◌, cond, List, [], ◌∷◌, reverse, refl, arith}
use Rattle.std.proofs.lemmas.Bool.{and_parts, or_parts}
use Rattle.std.specs.List.{list_any}
use Rattle.irq_base.specs.declared.numbers.DriverNo.{DriverNo}
use Rattle.irq_base.specs.declared.lines.LineDef.{LineDef}
use Rattle.irq_base.specs.declared.entries.Entry.{Entry}
use Rattle.irq_base.specs.declared.entries.Entry.TheVariants as by
use Rattle.irq_base.specs.declared.entries.CpuEntry.TheVariants as cpus
use Rattle.irq_base.specs.declared.entries.ThreadEntry.TheVariants as threads
use Rattle.irq_base.specs.declared.entries.TakeAnswer.TheVariants as takes
use Rattle.irq_model.specs.Places.{EachEntry, count_of}
use Rattle.irq_model.specs.Kinds.{is_take, is_off, is_kill}
use Rattle.irq_model.specs.Links.{depth, is_disabled, is_none_linked}
use Rattle.irq_model.specs.Rounds.{flow, has_flow}
use Rattle.irq_model.specs.Waiting.{is_pending}
use Rattle.irq_model.specs.Threads.{is_woken, is_running}
use Rattle.irq_model.specs.Legal.{IsDue, IsLegal, IsLegalPast}
use Rattle.irq_model.specs.Valid.{IsValid}
use Rattle.irq_laws.proofs.Lists.{both_ways}
use Rattle.irq_laws.proofs.KeptAlways.{kept}
use Rattle.irq_laws.proofs.RunsKept.{handle_idle}
use Rattle.irq_laws.proofs.FreesKept.{nothing_called}
use Rattle.irq_laws.proofs.ImpliesFlow.{has_a_flow, take_due, begin_due}
use Rattle.irq_laws.proofs.ImpliesThread.{thread_begin_due}
use Rattle.irq_pm.specs.Sleeping.{is_synced_by, since_disable, before_disable, is_suspended, is_asleep, is_left_alone}
use Rattle.irq_pm.specs.SleptLines.{begins_run, IsAtRest, SleepsSoundly}
use Rattle.irq_pm.proofs.Held.{held, not_handled}

-- a law of an entry and what stands before it, if both are legal
pub each_legal : (def : LineDef) (P : Entry → List Entry → Type 0)
    → ((e : Entry) (past : List Entry) → IsLegalPast def (e ∷ past) → P e past) → (past : List Entry)
    → IsLegalPast def past → EachEntry P past
each_legal def P law [] legal = tt
each_legal def P law (e ∷ past) legal = (law e past legal, each_legal def P law past legal.1)

pub rests : (def : LineDef) (r : DriverNo) (past : List Entry) → IsValid def → IsLegalPast def past
    → is_asleep r past ≡ true → is_left_alone r past ≡ true → IsAtRest def past
rests def r past valid legal asleep alone =
    let parts = and_parts (is_suspended r past) (list_any (is_synced_by r) (since_disable r past)) asleep in
    let k = held def r past valid legal parts.0 alone in
    let was : depth past ≡ depth (before_disable r past) + 1 + count_of is_kill (since_disable r past) = k.deeper in
    let idle : has_flow def past ≡ false = k.cleared (k.waited parts.1) in
    record {
      disabled = omega (arith, was);
      no_flow = idle;
      no_handler
          = nothing_called def past (kept def past valid legal).runs idle;
      no_thread = k.rested parts.1;
    }

-- on a line at rest no run begins
pub still_at : (def : LineDef) (e : Entry) (past : List Entry) → IsDue def e past → IsAtRest def past → begins_run e ≡ false
still_at def (by.Cpu c (cpus.Begin x)) past due k = both_ways (has_flow def past) (has_a_flow c (flow def past) (begin_due def c x past due).of_flow) k.no_flow
still_at def (by.Thread x threads.Begin) past due k = both_ways (is_woken past x) (thread_begin_due def x past due).woken
    (or_parts (is_woken past x) (is_running past x) (k.no_thread x)).0
still_at def e past due k = refl

busy_flow : (f o : Bool) → takes.Busy ≡ cond f takes.Busy (cond o takes.Off takes.Handle) → f ≡ true
busy_flow true o h = refl
busy_flow false true h = cc
busy_flow false false h = cc

-- and a take is answered Off
off_at : (def : LineDef) (e : Entry) (past : List Entry) → IsDue def e past → IsAtRest def past → is_take e ≡ true → is_off e ≡ true
off_at def (by.Cpu c (cpus.Take way takes.Handle)) past due k took
    = not_handled def past k.disabled (handle_idle def past (take_due def c way takes.Handle past due).answer_is)
off_at def (by.Cpu c (cpus.Take way takes.Busy)) past due k took =
    both_ways (has_flow def past) (busy_flow (has_flow def past) (is_disabled past || is_none_linked past)
    (take_due def c way takes.Busy past due).answer_is) k.no_flow
off_at def (by.Cpu c (cpus.Take way takes.Off)) past due k took = refl
off_at def e past due k took = cc

pub sleeps_soundly : (def : LineDef) (r : DriverNo) (h : List Entry) → IsValid def → IsLegal def h → SleepsSoundly def r h
sleeps_soundly def r h valid legal =
    record {
      rests = each_legal def (λ e past. is_asleep r (e ∷ past) ≡ true → is_left_alone r (e ∷ past) ≡ true
          → IsAtRest def (e ∷ past)) (λ e past l asleep alone. rests def r (e ∷ past) valid l asleep alone) (reverse h)
          legal;
      still = each_legal def (λ e past. is_asleep r past ≡ true → is_left_alone r past ≡ true → begins_run e ≡ false)
          (λ e past l asleep alone. still_at def e past l.0 (rests def r past valid l.1 asleep alone)) (reverse h)
          legal;
      off = each_legal def (λ e past. is_asleep r past ≡ true → is_left_alone r past ≡ true → is_take e ≡ true → is_off e ≡ true)
          (λ e past l asleep alone. off_at def e past l.0 (rests def r past valid l.1 asleep alone)) (reverse h) legal;
      pending = λ edge. each_legal def (λ e past. is_suspended r (e ∷ past) ≡ true → is_left_alone r (e ∷ past) ≡ true
          → list_any is_take (since_disable r (e ∷ past)) ≡ true → is_pending def (e ∷ past) ≡ true)
          (λ e past l stands alone. (held def r (e ∷ past) valid l stands alone).pending edge) (reverse h) legal;
    }
