-- Where no run of a line waits, nobody hangs. A processor waits for nobody; a thread waits for a processor
-- alone; who holds the request mutex waits for these, and any other driver for all of these.
use Rattle.std.proofs.Common.{◌≡◌, ℕ, zero, suc, ◌<◌, Bool, true, false, not, ◌||◌, ◌&&◌, cond, Option, Some}
use Rattle.std.proofs.Common.{None, List, [], ◌∷◌, refl, sym, ap, ◌∙◌, subst, arith}
use Rattle.std.specs.List.{list_any, AllByRecursion}
use Rattle.std.proofs.lemmas.Bool.{false_from_ne_true}
use Rattle.std.proofs.lemmas.List.Elements.{recursion_from_All}
use Rattle.irq_base.specs.declared.numbers.CpuNo.{CpuNo}
use Rattle.irq_base.specs.declared.numbers.DevNo.{DevNo}
use Rattle.irq_base.specs.declared.numbers.DriverNo.{DriverNo}
use Rattle.irq_base.specs.declared.calls.Call.{Call}
use Rattle.irq_base.specs.declared.calls.Call.TheVariants as calls
use Rattle.irq_base.specs.declared.devices.Kind.{Kind}
use Rattle.irq_base.specs.declared.devices.Part.{Part}
use Rattle.irq_base.specs.declared.devices.Part.TheVariants as parts
use Rattle.irq_base.specs.declared.lines.LineDef.{LineDef}
use Rattle.irq_base.specs.declared.entries.Actor.{Actor}
use Rattle.irq_base.specs.declared.entries.Actor.TheVariants as actors
use Rattle.irq_base.specs.declared.entries.Entry.{Entry}
use Rattle.irq_model.specs.Kinds.{same_dev, same_actor, is_thread_return, is_thread_begin}
use Rattle.irq_model.specs.Lines.{kind_of, run_script, script_in, same_part}
use Rattle.irq_model.specs.Places.{some_place, last_place, since}
use Rattle.irq_model.specs.Rounds.{flow, is_cpu, at_work}
use Rattle.irq_model.specs.Threads.{is_running}
use Rattle.irq_model.specs.Due.{due_of, due_call, is_being_freed_at}
use Rattle.irq_model.specs.Runs.{due_in_run, makes_calls, entries_of_run}
use Rattle.irq_model.specs.Legal.{IsLegalPast}
use Rattle.irq_model.specs.Valid.{IsValid}
use Rattle.irq_model.specs.ValidRuns.{HasValidRuns, NeverWaits, may_stand, may_wait}
use Rattle.irq_model.specs.Waits.{Want, flow_ends, threads_rest, thread_rests, mutex_free, nothing_wanted, wanted, wanted_by, wanted_of, wanted_at_work}
use Rattle.irq_model.specs.Waits.{wanted_by_cpu, wanted_by_thread, maker_of, mutex_holder, StandsIn, WaitsFor, WaitsThrough, IsHungPast}
use Rattle.irq_laws.specs.Actors.{due_of_actor}
use Rattle.irq_laws.specs.Kept.{freeing}
use Rattle.irq_laws.proofs.Chosen.{the_same}
use Rattle.irq_laws.proofs.KeptAlways.{kept}
use Rattle.irq_laws.proofs.Mutex.{holder}
use Rattle.irq_laws.proofs.Requested.{one_of}
use Rattle.irq_laws.proofs.Standstill.{run_stands, holds_it, free_wants}
use Rattle.irq_laws.proofs.WithinFree.{within_free}
use Rattle.irq_model.proofs.Same.{actor_from_same, same_self_actor}

-- ---- a run wants nothing

script_waits : (runs : List (DevNo × Part × Call)) (d : DevNo) (part : Part) → AllByRecursion (λ c. may_wait c.2 ≡ false) runs
    → AllByRecursion (λ c. not (may_wait c) ≡ true) (script_in runs d part)
script_waits [] d part h = tt
script_waits (c ∷ cs) d part h = by_test (same_dev d c.0 && same_part part c.1) refl (script_waits cs d part h.1)
  where
    by_test : (b : Bool) → (same_dev d c.0 && same_part part c.1) ≡ b
        → AllByRecursion (λ x. not (may_wait x) ≡ true) (script_in cs d part)
        → AllByRecursion (λ x. not (may_wait x) ≡ true) (script_in (c ∷ cs) d part)
    by_test true is rest = rw is (ap not h.0, rest)
    by_test false is rest = rw is rest

pub run_waits_not : (def : LineDef) (past : List Entry) (part : Part) (d : DevNo) (c : Call) (n : ℕ) → NeverWaits def
    → due_in_run def part d past ≡ Some (c, n) → not (may_wait c) ≡ true
run_waits_not def past part d c n waits h = by_test (makes_calls def part d past) refl
  where
    by_test : (b : Bool) → makes_calls def part d past ≡ b → not (may_wait c) ≡ true
    by_test true is = one_of (λ x. not (may_wait x)) (run_script def d part) (entries_of_run part d past) c n
        (script_waits def.runs d part (recursion_from_All (λ x. may_wait x.2 ≡ false) def.runs waits))
        (ap (λ (b : Bool). cond b (due_of (run_script def d part) (entries_of_run part d past)) None) (sym is) ∙ h)
    by_test false is = let x = ap (λ (b : Bool). cond b (due_of (run_script def d part) (entries_of_run part d past)) None) (sym is) ∙ h in cc

wants_nothing : (kind : Kind) (part : Part) (d : DevNo) (c : Call) (n : ℕ) → may_stand kind part d c ≡ true → not (may_wait c) ≡ true
    → wanted_by (c, n) ≡ nothing_wanted
wants_nothing kind part d (calls.Request x flags) n may h = cc
wants_nothing kind part d (calls.Free x) n may h = cc
wants_nothing kind part d calls.Disable n may h = cc
wants_nothing kind part d calls.Sync n may h = cc
wants_nothing kind part d calls.SyncHard n may h = cc
wants_nothing kind part d calls.DisableHard n may h = cc
wants_nothing kind part d c n may h = refl

pub none_stands : (def : LineDef) (past : List Entry) (b : Actor) → StandsIn def past nothing_wanted b → ⊥
none_stands def past (actors.Thread d) h = h
none_stands def past (actors.Cpu c) h = h
none_stands def past (actors.Driver r) h = h

-- ---- who holds the mutex doesn't want it

held_at : (P : List Entry → List Entry → Bool) (past : List Entry) (a : Actor) → maker_of (last_place P past) ≡ Some a → some_place P past ≡ true
held_at P [] a h = cc
held_at P (e ∷ past) a h = by_test (P [] (e ∷ past)) h (held_at (λ after upto. P (e ∷ after) upto) past a)
  where
    by_test : (b : Bool) → maker_of (cond b (e ∷ past) (last_place (λ after upto. P (e ∷ after) upto) past)) ≡ Some a
        → (maker_of (last_place (λ after upto. P (e ∷ after) upto) past) ≡ Some a → some_place (λ after upto. P (e ∷ after) upto) past ≡ true)
        → (b || some_place (λ after upto. P (e ∷ after) upto) past) ≡ true
    by_test true h deeper = refl
    by_test false h deeper = deeper h

same_maker : (o : Option Actor) (a b : Actor) → o ≡ Some a → o ≡ Some b → a ≡ b
same_maker o a b h k = the_same a b (sym h ∙ k)

-- who holds the mutex is within its free
pub holder_wants_not : (def : LineDef) (past : List Entry) (a : Actor) → IsValid def → IsLegalPast def past → mutex_holder past ≡ Some a
    → (d : DevNo) × (n : ℕ) × (due_of_actor def a past ≡ Some (calls.Free d, suc n))
holder_wants_not def past a valid legal held =
    let o = holder past (held_at is_being_freed_at past a held) in
    let f : freeing past ≡ Some (o.maker, o.dev) = (kept def past valid legal).frees.one_maker o.maker o.dev o.stands_there in
    let same : o.maker ≡ a = same_maker (mutex_holder past) o.maker a (holds_it o.maker o.dev past f) held in
    let w = within_free def past legal o.maker o.dev f in
    (o.dev, w.0, subst (λ (x : Actor). due_of_actor def x past ≡ Some (calls.Free o.dev, suc w.0)) same w.1)

module _ (def : LineDef) (past : List Entry) (valid : IsValid def) (runs : HasValidRuns def) (waits : NeverWaits def) (legal : IsLegalPast def past) where
  run_wants : (part : Part) (d : DevNo) → wanted_of (due_in_run def part d past) ≡ nothing_wanted
  run_wants part d = by_due (due_in_run def part d past) refl
    where
      by_due : (o : Option (Call × ℕ)) → due_in_run def part d past ≡ o → wanted_of o ≡ nothing_wanted
      by_due None is = refl
      by_due (Some (c, n)) is = wants_nothing (kind_of def d) part d c n (run_stands def past part d c n runs is) (run_waits_not def past part d c n waits is)

  cpu_wants : (c : CpuNo) → wanted_by_cpu def c past ≡ nothing_wanted
  cpu_wants c = by_test (is_cpu c (flow def past)) (at_work past)
    where
      by_test : (b : Bool) (o : Option DevNo) → cond b (wanted_at_work def o past) nothing_wanted ≡ nothing_wanted
      by_test false o = refl
      by_test true None = refl
      by_test true (Some d) = run_wants parts.Primary d

  -- ---- who waits for whom

  abbrev is_that : Actor → Option Actor → Bool
  is_that a None = false
  is_that a (Some b) = same_actor a b

  abbrev rank : Actor → ℕ
  rank (actors.Cpu c) = 0
  rank (actors.Thread d) = 1
  rank (actors.Driver r) = cond (is_that (actors.Driver r) (mutex_holder past)) 2 3

  over_thread : (b : Bool) → 1 < cond b 2 3
  over_thread true = omega arith
  over_thread false = omega arith

  thread_lower : (d : DevNo) (b : Actor) (w : Want) → wanted def (actors.Thread d) past ≡ w → StandsIn def past w b → rank b < 1
  thread_lower d b w is s = by_running (is_running past d) (list_any (is_thread_return d) (since (is_thread_begin d) past)) is
    where
      by_flow : (b : Actor) → StandsIn def past flow_ends b → rank b < 1
      by_flow (actors.Cpu c) s = omega arith
      by_flow (actors.Thread d) s = absurd s
      by_flow (actors.Driver r) s = absurd s

      by_running : (runs returned : Bool)
          → cond (not runs) nothing_wanted (cond returned flow_ends (wanted_of (due_in_run def parts.Thread d past))) ≡ w → rank b < 1
      by_running false t is = absurd (none_stands def past b (subst (λ (x : Want). StandsIn def past x b) (sym is) s))
      by_running true true is = by_flow b (subst (λ (x : Want). StandsIn def past x b) (sym is) s)
      by_running true false is = absurd (none_stands def past b (subst (λ (x : Want). StandsIn def past x b) (sym is ∙ run_wants parts.Thread d) s))

  -- who wants the mutex doesn't hold it
  holds_not : (r : DriverNo) → wanted_of (due_call def r past) ≡ mutex_free → is_that (actors.Driver r) (mutex_holder past) ≡ false
  holds_not r wants = by_holder (mutex_holder past) refl
    where
      by_holder : (o : Option Actor) → mutex_holder past ≡ o → is_that (actors.Driver r) o ≡ false
      by_holder None is = refl
      by_holder (Some b) is = false_from_ne_true (same_actor (actors.Driver r) b) (λ same.
          let mine : mutex_holder past ≡ Some (actors.Driver r) = is ∙ ap Some (sym (actor_from_same (actors.Driver r) b same)) in
          let w = holder_wants_not def past (actors.Driver r) valid legal mine in
          (free_wants w.0 w.1).1 (sym (ap wanted_of w.2) ∙ wants))

  holder_rank : (b : Actor) → mutex_holder past ≡ Some b → rank b < 3
  holder_rank (actors.Cpu c) held = omega arith
  holder_rank (actors.Thread d) held = omega arith
  holder_rank (actors.Driver s) held = rw (held, same_self_actor (actors.Driver s)) (omega arith)

  driver_lower : (r : DriverNo) (b : Actor) (w : Want) → wanted_of (due_call def r past) ≡ w → StandsIn def past w b → rank b < rank (actors.Driver r)
  driver_lower r (actors.Cpu c) flow_ends is s = omega (arith, over_thread (is_that (actors.Driver r) (mutex_holder past)))
  driver_lower r (actors.Thread d) threads_rest is s = over_thread (is_that (actors.Driver r) (mutex_holder past))
  driver_lower r (actors.Thread d) (thread_rests x) is s = over_thread (is_that (actors.Driver r) (mutex_holder past))
  driver_lower r b mutex_free is s =
      subst (λ (t : Bool). rank b < cond t 2 3) (sym (holds_not r is)) (holder_rank b s)
  driver_lower r b nothing_wanted is s = absurd (none_stands def past b s)
  driver_lower r (actors.Thread d) flow_ends is s = absurd s
  driver_lower r (actors.Driver d) flow_ends is s = absurd s
  driver_lower r (actors.Cpu d) threads_rest is s = absurd s
  driver_lower r (actors.Driver d) threads_rest is s = absurd s
  driver_lower r (actors.Cpu d) (thread_rests x) is s = absurd s
  driver_lower r (actors.Driver d) (thread_rests x) is s = absurd s

  lower : (a b : Actor) → WaitsFor def past a b → rank b < rank a
  lower (actors.Cpu c) b w = absurd (none_stands def past b (subst (λ (x : Want). StandsIn def past x b) (cpu_wants c) w.1))
  lower (actors.Thread d) b w = thread_lower d b (wanted_by_thread def d past) refl w.1
  lower (actors.Driver r) b w = driver_lower r b (wanted_of (due_call def r past)) refl w.1

  lower_through : (n : ℕ) (a b : Actor) → WaitsThrough def past n a b → rank b < rank a
  lower_through zero a b w = lower a b w
  lower_through (suc n) a b w = omega (arith, lower a w.0 w.1, lower_through n w.0 b w.2)

pub nobody_hangs : (def : LineDef) (past : List Entry) → IsValid def → HasValidRuns def → NeverWaits def → IsLegalPast def past
    → (a : Actor) → IsHungPast def past a → ⊥
nobody_hangs def past valid runs waits legal a (n, w) = let x = lower_through def past valid runs waits legal n a a w in omega (arith, x)
