-- Who is hung, read off the state and the drivers' places in their scripts.
use Rattle.std.specs.Prelude.{ℕ, zero, suc, Bool, true, false, ◌||◌, if◌then◌else◌, Option, Some}
use Rattle.std.specs.Prelude.{None, List}
use Rattle.std.specs.Option.{option_map_or}
use Rattle.irq_base.specs.declared.entries.Actor.{Actor}
use Rattle.irq_base.specs.declared.entries.Actor.TheVariants as actors
use Rattle.irq_base.specs.declared.lines.LineDef.{LineDef}
use Rattle.irq_base.specs.declared.numbers.CpuNo.{CpuNo}
use Rattle.irq_base.specs.declared.numbers.DevNo.{DevNo}
use Rattle.irq_base.specs.declared.numbers.DriverNo.{DriverNo}
use Rattle.irq_base.specs.declared.waiting.WaitFor.{WaitFor}
use Rattle.irq_base.specs.declared.waiting.WaitFor.TheVariants as waits
use Rattle.irq_model.specs.Kinds.{same_dev}
use Rattle.act_thread.specs.Threads.{is_idle_at}
use Rattle.line_scripts.specs.Rows.{RowSeen}
use Rattle.line_marks.specs.Next.{due_call_in}
use Rattle.line_marks.specs.State.{StateSeen}
use Rattle.line_state.specs.Seen.{lowest_of, spins_in}
use Rattle.line_state.specs.Waits.{wait_of_due, wait_of_thread}

-- what the actor's next entry waits for; a processor isn't asked, which waits for itself alone
abbrev pub wait_of_actor : LineDef → StateSeen → List (DriverNo × RowSeen) → Actor → WaitFor
wait_of_actor def s scripts (actors.Thread d) = wait_of_thread def s d
wait_of_actor def s scripts (actors.Cpu c) = waits.Nothing
wait_of_actor def s scripts (actors.Driver r) = wait_of_due (due_call_in scripts r)

-- who frees a device, or the thread of that device, if it isn't at rest
abbrev pub way_through : StateSeen → Option (Actor × DevNo) → WaitFor → Option Actor
way_through s None wait = None
way_through s (Some free) waits.Mutex = Some free.0
way_through s (Some free) waits.Freed =
    if is_idle_at s.threads free.1 then None else Some (actors.Thread free.1)
way_through s (Some free) _ = None

abbrev pub way_from : StateSeen → WaitFor → Option Actor
way_from s wait = way_through s s.freeing wait

abbrev pub is_sync : WaitFor → Bool
is_sync waits.Threads = true
is_sync _ = false

abbrev pub is_thread_of : DevNo → Actor → Bool
is_thread_of d (actors.Thread e) = same_dev d e
is_thread_of d _ = false

module _ (def : LineDef) (s : StateSeen) (scripts : List (DriverNo × RowSeen)) where
  -- from an actor that is waited for, n further waits lead to a sync or to d's thread
  abbrev pub leads_to : ℕ → DevNo → Actor → Bool
  leads_to zero d a = false
  leads_to (suc n) d a = is_sync (wait_of_actor def s scripts a)
      || option_map_or (λ b. is_thread_of d b || leads_to n d b)
      (way_from s (wait_of_actor def s scripts a)) false

  -- a thread that syncs waits for its own run too; else what it waits for leads back to it, or to
  -- a thread that syncs, in three waits
  abbrev pub is_thread_hung : DevNo → Bool
  is_thread_hung d = leads_to 3 d (actors.Thread d)

  abbrev pub lowest_hung_thread : Option DevNo
  lowest_hung_thread = lowest_of is_thread_hung s.threads

-- the flow's processor, if it has no entry due
abbrev pub spinning_in : LineDef → StateSeen → Option CpuNo
spinning_in def s = if spins_in def s s.desc.flow then s.desc.flow else None

abbrev pub hung_actor : Option DevNo → Option CpuNo → Option Actor
hung_actor (Some d) c = Some (actors.Thread d)
hung_actor None (Some c) = Some (actors.Cpu c)
hung_actor None None = None

-- threads come first; a driver that is hung is never the lowest
abbrev pub lowest_hung_by : LineDef → StateSeen → List (DriverNo × RowSeen) → Option Actor
lowest_hung_by def s scripts =
    hung_actor (lowest_hung_thread def s scripts) (spinning_in def s)
