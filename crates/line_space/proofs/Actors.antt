-- Every entry that is due is due of one of the actors that are asked.
use Rattle.std.proofs.Common.{Contains, ◌≡◌, zero, suc, Bool, true, false, not, ◌||◌, cond}
use Rattle.std.proofs.Common.{Option, Some, None, List, [], ◌∷◌, ◌++◌}
use Rattle.std.proofs.Common.{refl, sym, ap, subst, ◌∙◌, arith}
use Rattle.std.proofs.lemmas.List.Elements.{Contains-append_left, Contains-append_right}
use Rattle.std.specs.List.{list_any}
use Rattle.irq_base.specs.Cell.{signals}
use Rattle.irq_base.specs.declared.calls.Call.{Call}
use Rattle.irq_base.specs.declared.devices.DeviceDef.{DeviceDef}
use Rattle.irq_base.specs.declared.entries.Actor.{Actor}
use Rattle.irq_base.specs.declared.entries.Actor.TheVariants as actors
use Rattle.irq_base.specs.declared.entries.Entry.{Entry}
use Rattle.irq_base.specs.declared.entries.Entry.TheVariants as by
use Rattle.irq_base.specs.declared.entries.CpuEntry.TheVariants as cpus
use Rattle.irq_base.specs.declared.entries.Way.TheVariants as ways
use Rattle.irq_base.specs.declared.lines.LineDef.{LineDef}
use Rattle.irq_base.specs.declared.numbers.CpuNo.{CpuNo}
use Rattle.irq_base.specs.declared.numbers.DevNo.{DevNo}
use Rattle.irq_base.specs.declared.numbers.DriverNo.{DriverNo}
use Rattle.irq_model.specs.Due.{entries_by, due_of}
use Rattle.irq_model.specs.Kinds.{same_dev, same_driver}
use Rattle.irq_model.specs.Legal.{IsLegalPast}
use Rattle.irq_model.specs.Lines.{is_device}
use Rattle.irq_model.specs.Next.{next_past, next_of_driver}
use Rattle.irq_model.specs.Rounds.{is_cpu}
use Rattle.irq_model.specs.Signal.{lowest_in}
use Rattle.irq_model.specs.Valid.{IsValid}
use Rattle.irq_model.specs.ValidRuns.{HasValidRuns}
use Rattle.irq_model.proofs.Same.{dev_from_same, driver_from_same, cpu_from_same}
use Rattle.irq_line.specs.Queries.{is_some_take}
use Rattle.act_thread.specs.declared.rows.ThreadRow.{ThreadRow}
use Rattle.device_table.proofs.Tables.{at_none}
use Rattle.line_scripts.specs.Rows.{RowSeen, place_of, within_of}
use Rattle.line_marks.proofs.CpuDueIs.{cpu_due_is}
use Rattle.line_marks.proofs.DueIs.{due_is}
use Rattle.line_marks.specs.CpuDue.{in_flow_by, next_take_by, take_by}
use Rattle.line_marks.specs.Due.{thread_due, due_of_row}
use Rattle.line_marks.specs.Scripts.{IsAt}
use Rattle.line_marks.specs.State.{StateSeen, state_of}
use Rattle.line_marks.specs.Threads.{thread_of}
use Rattle.line_core.proofs.Queries.{is_taker}
use Rattle.line_state.specs.Seen.{taker_of}
use Rattle.line_words.proofs.Placing.{none_called}
use Rattle.line_words.specs.Node.{drivers_in}
use Rattle.line_words.specs.Scripts.{AreScripts}
use Rattle.line_space.specs.Stepping.{actors_by, cpus_in, threads_in, drivers_of}

module _ {X : Type 0} where
  pub here : (x : X) (xs : List X) → Contains (x ∷ xs) x
  here x xs = (0, omega arith, refl)

  pub later : (x y : X) (xs : List X) → Contains xs y → Contains (x ∷ xs) y
  later x y xs h = Contains-append_right (x ∷ []) xs y h

  pub one_is : (x y : X) → Contains (x ∷ []) y → x ≡ y
  one_is x y (zero, lt, is) = is
  one_is x y (suc k, lt, is) = absurd (omega (arith, lt))

thread_there : (xs : List DeviceDef) (d : DevNo) → list_any (is_device d) xs ≡ true → Contains (threads_in xs) (actors.Thread d)
thread_there [] d h = absurd (let x : ⊥ = cc h in x)
thread_there (x ∷ xs) d h = by_test (same_dev d x.dev) refl h (thread_there xs d)
  where
    by_test : (b : Bool) → same_dev d x.dev ≡ b → (b || list_any (is_device d) xs) ≡ true
        → (list_any (is_device d) xs ≡ true → Contains (threads_in xs) (actors.Thread d))
        → Contains (threads_in (x ∷ xs)) (actors.Thread d)
    by_test true same k rest =
        let P : DevNo → Type 0 = λ y. Contains (threads_in (x ∷ xs)) (actors.Thread y) in
        subst P (sym (dev_from_same d x.dev same)) (here (actors.Thread x.dev) (threads_in xs))
    by_test false other k rest = later (actors.Thread x.dev) (actors.Thread d) (threads_in xs) (rest k)

driver_there : (rs : List DriverNo) (r : DriverNo) → list_any (same_driver r) rs ≡ true → Contains (drivers_of rs) (actors.Driver r)
driver_there [] r h = absurd (let x : ⊥ = cc h in x)
driver_there (w ∷ rs) r h = by_test (same_driver r w) refl h (driver_there rs r)
  where
    by_test : (b : Bool) → same_driver r w ≡ b → (b || list_any (same_driver r) rs) ≡ true
        → (list_any (same_driver r) rs ≡ true → Contains (drivers_of rs) (actors.Driver r))
        → Contains (drivers_of (w ∷ rs)) (actors.Driver r)
    by_test true same k rest =
        let P : DriverNo → Type 0 = λ y. Contains (drivers_of (w ∷ rs)) (actors.Driver y) in
        subst P (sym (driver_from_same r w same)) (here (actors.Driver w) (drivers_of rs))
    by_test false other k rest = later (actors.Driver w) (actors.Driver r) (drivers_of rs) (rest k)

cpu_there : (o : Option CpuNo) (c : CpuNo) → o ≡ Some c → Contains (cpus_in o) (actors.Cpu c)
cpu_there o c is = let P : Option CpuNo → Type 0 = λ x. Contains (cpus_in x) (actors.Cpu c) in subst P (sym is) (here (actors.Cpu c) [])

flow_is : (c : CpuNo) (o : Option CpuNo) → is_cpu c o ≡ true → o ≡ Some c
flow_is c None h = cc
flow_is c (Some d) h = ap Some (sym (cpu_from_same c d h))

takes : (s : StateSeen) (c : CpuNo) (e : Entry) (target line soft : Bool)
    → cond (not target) None (cond line (Some (by.Cpu c (cpus.Take ways.Line (take_by s))))
    (cond soft (Some (by.Cpu c (cpus.Take ways.Resend (take_by s)))) None)) ≡ Some e
    → is_some_take (Some e) ≡ true
takes s c e true true soft h = ap is_some_take (sym h)
takes s c e true false true h = ap is_some_take (sym h)
takes s c e true false false h = cc
takes s c e false line soft h = cc

module _ (def : LineDef) (valid : IsValid def) (runs : HasValidRuns def) (g : List Entry) (legal : IsLegalPast def g)
    (scripts : List (DriverNo × RowSeen)) (are : AreScripts def scripts)
    (at_places : (r : DriverNo) → IsAt def g r (place_of scripts r) (within_of scripts r)) where
  abbrev s : StateSeen
  s = state_of def g

  abbrev pub all_actors : List Actor
  all_actors = actors_by def (state_of def g).desc.flow (taker_of (state_of def g)) (drivers_in def.calls)

  abbrev Asked : Actor → Type 0
  Asked a = Contains (actors_by def (state_of def g).desc.flow (taker_of (state_of def g)) (drivers_in def.calls)) a

  thread_asked : (d : DevNo) (e : Entry) → next_past def g (actors.Thread d) ≡ Some e → Asked (actors.Thread d)
  thread_asked d e due =
      by_there (list_any (is_device d) def.devices) refl (sym (due_is def g scripts are.calls at_places (actors.Thread d) valid legal) ∙ due)
    where
      by_there : (b : Bool) → list_any (is_device d) def.devices ≡ b → thread_due def (state_of def g) d ≡ Some e → Asked (actors.Thread d)
      by_there true there h =
          Contains-append_left (threads_in def.devices)
          (cpus_in (state_of def g).desc.flow ++ (cpus_in (taker_of (state_of def g))
          ++ drivers_of (drivers_in def.calls)))
          (actors.Thread d) (thread_there def.devices d there)
      by_there false none h =
          absurd (let i : ◌≡◌ {A = Option Entry} None (Some e)
          = sym (ap (λ (o : Option ThreadRow). due_of_row def (state_of def g) d o)
          (at_none (thread_of g) def.devices d none)) ∙ h in
          let x : ⊥ = cc i in x)

  behind_threads : (a : Actor) → Contains (cpus_in (state_of def g).desc.flow
      ++ (cpus_in (taker_of (state_of def g)) ++ drivers_of (drivers_in def.calls))) a → Asked a
  behind_threads a h = Contains-append_right (threads_in def.devices)
      (cpus_in (state_of def g).desc.flow ++ (cpus_in (taker_of (state_of def g)) ++ drivers_of (drivers_in def.calls)))
      a h

  behind_flow : (a : Actor) → Contains (cpus_in (taker_of (state_of def g)) ++ drivers_of (drivers_in def.calls)) a → Asked a
  behind_flow a h = behind_threads a (Contains-append_right (cpus_in (state_of def g).desc.flow)
      (cpus_in (taker_of (state_of def g)) ++ drivers_of (drivers_in def.calls)) a h)

  cpu_asked : (c : CpuNo) (e : Entry) → next_past def g (actors.Cpu c) ≡ Some e → Asked (actors.Cpu c)
  cpu_asked c e due = by_flow (is_cpu c (state_of def g).desc.flow) refl (sym (cpu_due_is def g c valid legal) ∙ due)
    where
      by_flow : (b : Bool) → is_cpu c (state_of def g).desc.flow ≡ b
          → cond b (in_flow_by def (state_of def g) c (state_of def g).round.working) (next_take_by (state_of def g) c) ≡ Some e → Asked (actors.Cpu c)
      by_flow true busy h =
          behind_threads (actors.Cpu c) (Contains-append_left (cpus_in (state_of def g).desc.flow)
          (cpus_in (taker_of (state_of def g)) ++ drivers_of (drivers_in def.calls))
          (actors.Cpu c) (cpu_there (state_of def g).desc.flow c (flow_is c (state_of def g).desc.flow busy)))
      by_flow false free h =
          let take : is_some_take (next_past def g (actors.Cpu c)) ≡ true = ap is_some_take due
          ∙ takes (state_of def g) c e (is_cpu c (lowest_in (state_of def g).aim.cpus (state_of def g).aim.mask))
          (signals (state_of def g).cell) (state_of def g).desc.soft h in
          behind_flow (actors.Cpu c) (Contains-append_left (cpus_in (taker_of (state_of def g))) (drivers_of (drivers_in def.calls)) (actors.Cpu c)
          (cpu_there (taker_of (state_of def g)) c ((is_taker def g valid runs legal c).1 take)))

  driver_asked : (r : DriverNo) (e : Entry) → next_past def g (actors.Driver r) ≡ Some e → Asked (actors.Driver r)
  driver_asked r e due = by_there (list_any (same_driver r) (drivers_in def.calls)) refl
    where
      by_there : (b : Bool) → list_any (same_driver r) (drivers_in def.calls) ≡ b → Asked (actors.Driver r)
      by_there true there =
          behind_flow (actors.Driver r) (Contains-append_right (cpus_in (taker_of (state_of def g))) (drivers_of (drivers_in def.calls)) (actors.Driver r)
          (driver_there (drivers_in def.calls) r there))
      by_there false none =
          absurd (let i : ◌≡◌ {A = Option Entry} None (Some e)
          = sym (ap (λ (cs : List Call). next_of_driver def r g (due_of cs (entries_by r g))) (none_called r def.calls none)) ∙ due in
          let x : ⊥ = cc i in x)

  pub asked : (a : Actor) (e : Entry) → next_past def g a ≡ Some e → Asked a
  asked (actors.Thread d) e due = thread_asked d e due
  asked (actors.Cpu c) e due = cpu_asked c e due
  asked (actors.Driver r) e due = driver_asked r e due
