-- A line at rest: nothing is at work, all was delivered, and the drivers' calls are complete.
use Rattle.std.proofs.Common.{◌≡◌, ℕ, suc, Bool, true, false, not, ◌||◌, ◌&&◌, Option, Some, None, is_some, List}
use Rattle.std.proofs.Common.{nat_lt, reverse, refl, sym, ap, ◌∙◌, subst, arith}
use Rattle.std.proofs.lemmas.Bool.{and_from, or_left, or_from, and_left, false_from_ne_true, ltb-false}
use Rattle.irq_base.specs.declared.numbers.DevNo.{DevNo}
use Rattle.irq_base.specs.declared.calls.Call.{Call}
use Rattle.irq_base.specs.declared.calls.Call.TheVariants as calls
use Rattle.irq_base.specs.declared.devices.DeviceDef.{DeviceDef}
use Rattle.irq_base.specs.declared.lines.LineDef.{LineDef}
use Rattle.irq_base.specs.declared.entries.Actor.{Actor}
use Rattle.irq_base.specs.declared.entries.Actor.TheVariants as actors
use Rattle.irq_base.specs.declared.entries.Entry.{Entry}
use Rattle.irq_base.specs.declared.entries.Entry.TheVariants as by
use Rattle.irq_base.specs.declared.entries.CpuEntry.TheVariants as cpus
use Rattle.irq_base.specs.declared.entries.TakeAnswer.TheVariants as takes
use Rattle.irq_model.specs.Lines.{is_level_line}
use Rattle.irq_model.specs.Links.{depth, is_linked}
use Rattle.irq_model.specs.Asks.{unserved_asks, is_quiet, is_high}
use Rattle.irq_model.specs.Rounds.{has_flow}
use Rattle.irq_model.specs.Threads.{is_woken, is_running, is_unfinished, is_some_unfinished}
use Rattle.irq_model.specs.Due.{due_call, holds_mutex}
use Rattle.irq_model.specs.Reason.{is_called, is_finishing}
use Rattle.irq_model.specs.Owed.{is_owed, IsDelivered}
use Rattle.irq_model.specs.Laws.{IsHandledNext, IsServedWhenIdle}
use Rattle.irq_model.specs.Legal.{IsLegal}
use Rattle.irq_model.specs.Settled.{IsSettled}
use Rattle.irq_model.specs.Waits.{IsAtRest}
use Rattle.irq_model.specs.Valid.{IsValid}
use Rattle.irq_laws.specs.Actors.{due_of_actor}
use Rattle.irq_laws.specs.Kept.{Kept}
use Rattle.irq_laws.specs.Quiet.{IsQuiet}
use Rattle.irq_laws.proofs.Lists.{both_ways}
use Rattle.irq_laws.proofs.Mutex.{holder}
use Rattle.irq_laws.proofs.RestKept.{there_named}
use Rattle.irq_laws.proofs.RunLaws.{at_device}
use Rattle.irq_laws.proofs.KeptAlways.{kept}
use Rattle.irq_laws.proofs.ServedLaws.{served_when_idle}
use Rattle.irq_laws.proofs.DriversMove.{only_driver}
use Rattle.irq_laws.proofs.Idle.{IsIdle, CpusRest, at_rest_idle, none_of}
use Rattle.irq_laws.proofs.ReasonLaws.{one_is_called}
use Rattle.irq_laws.proofs.WithinFree.{within_free}

no_bit_idle : (def : LineDef) (past : List Entry) → Kept def past → IsIdle def past → is_some_unfinished def past ≡ false
no_bit_idle def past k i = none_of (λ (x : DeviceDef). is_unfinished past x.dev) def.devices (λ x. finished x.dev)
  where
    finished : (d : DevNo) → is_unfinished past d ≡ false
    finished d =
        let n = i.no_thread d in
        let rest = or_from (is_woken past d) (is_finishing past d) n.0 (and_left (is_running past d) _ n.1) in
        false_from_ne_true (is_unfinished past d) (λ h. both_ways (is_woken past d || is_finishing past d) (k.rest.at_work d h) rest)

-- ---- all was delivered

not_next : {P : Type 0} (def : LineDef) (h : List Entry) → CpusRest def (reverse h) → IsHandledNext def h → P
not_next def h still n = let s = still n.0 in let d : Some (by.Cpu n.0 (cpus.Take n.1 takes.Handle)) ≡ None = sym n.3 ∙ s in cc

delivered : (def : LineDef) (h : List Entry) → IsValid def → IsLegal def h → CpusRest def (reverse h) → IsIdle def (reverse h) → IsDelivered def h
delivered def h valid legal still i =
    record {
      edges = λ on d. false_from_ne_true (is_owed def d (reverse h)) (λ owed. not_next def h still (served.owed on i.no_flow d owed));
      levels = λ on level d linked loud works. none_unserved on level d linked loud (nat_lt 0 (unserved_asks def d (reverse h))) refl;
    }
  where
    k : Kept def (reverse h)
    k = kept def (reverse h) valid legal

    served : IsServedWhenIdle def h
    served = served_when_idle def h valid legal

    none_unserved : depth (reverse h) ≡ 0 → is_level_line def ≡ true → (d : DevNo) → is_linked (reverse h) d ≡ true
        → is_quiet (reverse h) d ≡ false → (b : Bool) → nat_lt 0 (unserved_asks def d (reverse h)) ≡ b → unserved_asks def d (reverse h) ≡ 0
    none_unserved on level d there loud false is = let n = ltb-false 0 (unserved_asks def d (reverse h)) is in omega (arith, n)
    none_unserved on level d there loud true is =
        let high : is_high def (reverse h) ≡ true = and_from _ _ level
        (at_device def (λ x. not (is_quiet (reverse h) x) && nat_lt 0 (unserved_asks def x (reverse h))) d
        (there_named def (reverse h) k d (or_left _ _ there)) (and_from _ _ (ap not loud) is)) in
        not_next def h still (served.high on i.no_flow high (no_bit_idle def (reverse h) k i))

-- ---- a line at rest

pub at_rest_is_delivered : (def : LineDef) (h : List Entry) → IsValid def → IsLegal def h → IsAtRest def h → IsDelivered def h
at_rest_is_delivered def h valid legal rest = delivered def h valid legal (λ c. rest.still (actors.Cpu c)) (at_rest_idle def h rest)

no_call : {P : Type 0} (o : Option (Call × ℕ)) (due : Call × ℕ) → o ≡ Some due → is_some o ≡ false → P
no_call None due is none = cc
no_call (Some x) due is none = cc

pub at_rest_is_quiet : (def : LineDef) (h : List Entry) → IsValid def → IsLegal def h → IsAtRest def h → IsQuiet def h
at_rest_is_quiet def h valid legal rest =
    record {
      no_flow = i.no_flow;
      no_handler = λ d. false_from_ne_true (is_called (reverse h) d)
          (λ c. both_ways (has_flow def (reverse h)) ((one_is_called def (reverse h) valid legal).in_round d c).0
          i.no_flow);
      no_thread = λ d. rest.done (actors.Thread d);
      no_free = false_from_ne_true (holds_mutex (reverse h)) no_holder;
    }
  where
    i : IsIdle def (reverse h)
    i = at_rest_idle def h rest

    -- the holder's free is due, and no call is
    no_holder : holds_mutex (reverse h) ≡ true → ⊥
    no_holder held =
        let o = holder (reverse h) held in
        let under = (kept def (reverse h) valid legal).frees.one_maker o.maker o.dev o.stands_there in
        let w = within_free def (reverse h) legal o.maker o.dev under in
        let r = only_driver def (reverse h) i o.maker (calls.Free o.dev, suc w.0) w.1 in
        let is = subst (λ (a : Actor). due_of_actor def a (reverse h) ≡ Some (calls.Free o.dev, suc w.0)) r.1 w.1 in
        no_call (due_call def r.0 (reverse h)) (calls.Free o.dev, suc w.0) is (rest.done (actors.Driver r.0))

no_due : (o : Option (Call × ℕ)) → is_some o ≡ false → o ≡ None
no_due None h = refl
no_due (Some x) h = cc

-- what is at rest is settled
pub at_rest_is_settled : (def : LineDef) (h : List Entry) → IsAtRest def h → IsSettled def h
at_rest_is_settled def h rest = record { still = rest.still; complete = λ r. no_due (due_call def r (reverse h)) (rest.done (actors.Driver r)) }
