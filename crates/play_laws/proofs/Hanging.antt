-- Who waits for itself through a driver goes through the thread of the device that the driver frees, which is hung
-- as well.
use Rattle.std.proofs.Common.{◌≡◌, ℕ, zero, suc, Bool, true, false, cond, Option, Some, None, List, refl, sym, ap, ◌∙◌, subst}
use Rattle.irq_base.specs.declared.numbers.CpuNo.{CpuNo}
use Rattle.irq_base.specs.declared.numbers.DevNo.{DevNo}
use Rattle.irq_base.specs.declared.numbers.DriverNo.{DriverNo}
use Rattle.irq_base.specs.declared.calls.Call.{Call}
use Rattle.irq_base.specs.declared.devices.Part.TheVariants as parts
use Rattle.irq_base.specs.declared.lines.LineDef.{LineDef}
use Rattle.irq_base.specs.declared.entries.Actor.{Actor}
use Rattle.irq_base.specs.declared.entries.Actor.TheVariants as actors
use Rattle.irq_base.specs.declared.entries.Entry.{Entry}
use Rattle.irq_model.specs.Lines.{kind_of}
use Rattle.irq_model.specs.Rounds.{flow, is_cpu, at_work}
use Rattle.irq_model.specs.Runs.{due_in_run}
use Rattle.irq_model.specs.Legal.{IsLegalPast}
use Rattle.irq_model.specs.Valid.{IsValid}
use Rattle.irq_model.specs.ValidRuns.{HasValidRuns}
use Rattle.irq_model.specs.Waits.{Want, flow_ends, threads_rest, thread_rests, mutex_free, nothing_wanted, wanted, wanted_of, wanted_at_work}
use Rattle.irq_model.specs.Waits.{mutex_holder, StandsIn, WaitsFor, WaitsThrough, IsHungPast, IsLowestHungPast}
use Rattle.irq_laws.proofs.Standstill.{run_stands, mutex_not, free_wants}
use Rattle.play_laws.proofs.NobodyHangs.{holder_wants_not}

-- who waits for a driver waits for the mutex
driver_holds : (def : LineDef) (past : List Entry) (r : DriverNo) (w : Want) → StandsIn def past w (actors.Driver r)
    → (w ≡ mutex_free) × (mutex_holder past ≡ Some (actors.Driver r))
driver_holds def past r mutex_free s = (refl, s)
driver_holds def past r flow_ends s = absurd s
driver_holds def past r threads_rest s = absurd s
driver_holds def past r (thread_rests d) s = absurd s
driver_holds def past r nothing_wanted s = absurd s

-- a handler doesn't wait for the mutex
cpu_wants_not : (def : LineDef) (past : List Entry) (c : CpuNo) → HasValidRuns def → wanted def (actors.Cpu c) past ≡ mutex_free → ⊥
cpu_wants_not def past c runs = by_tests (is_cpu c (flow def past)) (at_work past)
  where
    in_run : (d : DevNo) (o : Option (Call × ℕ)) → due_in_run def parts.Primary d past ≡ o → wanted_of o ≡ mutex_free → ⊥
    in_run d None is h = cc
    in_run d (Some (call, n)) is h = mutex_not (kind_of def d) d call n (run_stands def past parts.Primary d call n runs is) h

    by_tests : (b : Bool) (o : Option DevNo) → cond b (wanted_at_work def o past) nothing_wanted ≡ mutex_free → ⊥
    by_tests false o h = cc
    by_tests true None h = cc
    by_tests true (Some d) h = in_run d (due_in_run def parts.Primary d past) refl h

-- the last wait of a way
record LastWait (def : LineDef) (past : List Entry) (n : ℕ) (a b : Actor) : Type 0 where
  pub actor : Actor
  pub before : WaitsThrough def past n a actor
  pub last : WaitsFor def past actor b

last_wait : (def : LineDef) (past : List Entry) (n : ℕ) (a b : Actor) → WaitsThrough def past (suc n) a b → LastWait def past n a b
last_wait def past zero a b (c, first, rest) = record { actor = c; before = first; last = rest }
last_wait def past (suc n) a b (c, first, rest) =
    let l = last_wait def past n c b rest in
    record { actor = l.actor; before = (c, first, l.before); last = l.last }

-- on whichever way: a driver for whom somebody waits holds the mutex
end_holds : (def : LineDef) (past : List Entry) (n : ℕ) (a : Actor) (r : DriverNo) → WaitsThrough def past n a (actors.Driver r)
    → mutex_holder past ≡ Some (actors.Driver r)
end_holds def past zero a r w = (driver_holds def past r (wanted def a past) w.1).1
end_holds def past (suc n) a r w = end_holds def past n w.0 r w.2

module _ (def : LineDef) (past : List Entry) (valid : IsValid def) (runs : HasValidRuns def) (legal : IsLegalPast def past) where
  -- who holds the mutex doesn't wait for it
  no_wait : (a : Actor) → mutex_holder past ≡ Some a → (wanted def a past ≡ mutex_free) → (r : DriverNo) → a ≡ actors.Driver r → ⊥
  no_wait a held wants r is =
      let w = holder_wants_not def past (actors.Driver r) valid legal (held ∙ ap Some is) in
      (free_wants w.0 w.1).1 (sym (ap wanted_of w.2) ∙ subst (λ (x : Actor). wanted def x past ≡ mutex_free) is wants)

  thread_hangs : (r : DriverNo) (n : ℕ) (x : Actor) → WaitsThrough def past n (actors.Driver r) x → WaitsFor def past x (actors.Driver r)
      → (d : DevNo) × IsHungPast def past (actors.Thread d)
  thread_hangs r n (actors.Thread d) before last = (d, (suc n, (actors.Driver r, last, before)))
  thread_hangs r n (actors.Cpu c) before last =
      absurd (cpu_wants_not def past c runs (driver_holds def past r (wanted def (actors.Cpu c) past) last.1).0)
  thread_hangs r n (actors.Driver q) before last =
      absurd (no_wait (actors.Driver q) (end_holds def past n (actors.Driver r) q before)
      (driver_holds def past r (wanted def (actors.Driver q) past) last.1).0 q refl)

  pub driver_hung : (r : DriverNo) → IsHungPast def past (actors.Driver r) → (d : DevNo) × IsHungPast def past (actors.Thread d)
  driver_hung r (zero, w) =
      let h = driver_holds def past r (wanted def (actors.Driver r) past) w.1 in
      absurd (no_wait (actors.Driver r) h.1 h.0 r refl)
  driver_hung r (suc n, w) =
      let l = last_wait def past n (actors.Driver r) (actors.Driver r) w in
      thread_hangs r n l.actor l.before l.last

  pub lowest_hung_is_no_driver : (r : DriverNo) → IsLowestHungPast def past (Some (actors.Driver r)) → ⊥
  lowest_hung_is_no_driver r (hung, lowest) =
      let t = driver_hung r hung in
      let n = lowest (actors.Thread t.0) t.1 in cc
