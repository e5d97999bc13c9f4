-- An actor's calls: a driver's script, the script of a handler that is at work, or of a thread in
-- its
-- run; and the entries that it has made of them.
use Rattle.std.specs.Prelude.{ℕ, if◌then◌else◌, Option, Some, None, List, []}
use Rattle.irq_base.specs.declared.numbers.DevNo.{DevNo}
use Rattle.irq_base.specs.declared.calls.Call.{Call}
use Rattle.irq_base.specs.declared.devices.Part.TheVariants as parts
use Rattle.irq_base.specs.declared.lines.LineDef.{LineDef}
use Rattle.irq_base.specs.declared.entries.Actor.{Actor}
use Rattle.irq_base.specs.declared.entries.Actor.TheVariants as actors
use Rattle.irq_base.specs.declared.entries.Entry.{Entry}
use Rattle.irq_base.specs.declared.entries.Entry.TheVariants as by
use Rattle.irq_base.specs.declared.entries.CallEntry.{CallEntry}
use Rattle.irq_model.specs.Lines.{run_script}
use Rattle.irq_model.specs.Rounds.{flow, is_cpu, at_work}
use Rattle.irq_model.specs.Due.{calls_by, entries_by, due_of}
use Rattle.irq_model.specs.Runs.{entries_of_run}
use Rattle.irq_model.specs.RunLaws.{calls_of_run, is_in_run}

abbrev pub calls_at_work : LineDef → Option DevNo → List Entry → List Call
calls_at_work def None past = []
calls_at_work def (Some d) past = calls_of_run def parts.Primary d past

abbrev pub calls_of : LineDef → Actor → List Entry → List Call
calls_of def (actors.Driver r) past = calls_by r def.calls
calls_of def (actors.Thread d) past =
    if is_in_run past d then run_script def d parts.Thread else []
calls_of def (actors.Cpu c) past =
    if is_cpu c (flow def past) then calls_at_work def (at_work past) past else []

abbrev pub entries_at_work : Option DevNo → List Entry → List Entry
entries_at_work None past = []
entries_at_work (Some d) past = entries_of_run parts.Primary d past

-- the entries that it has made of them, the oldest first
abbrev pub entries_of : LineDef → Actor → List Entry → List Entry
entries_of def (actors.Driver r) past = entries_by r past
entries_of def (actors.Thread d) past =
    if is_in_run past d then entries_of_run parts.Thread d past else []
entries_of def (actors.Cpu c) past =
    if is_cpu c (flow def past) then entries_at_work (at_work past) past else []

-- the actor's first call that isn't complete, and how many entries it has made
abbrev pub due_of_actor : LineDef → Actor → List Entry → Option (Call × ℕ)
due_of_actor def a past = due_of (calls_of def a past) (entries_of def a past)

-- the step of a call, by whomever: what it changes of the line doesn't depend on its maker
abbrev pub by_someone : CallEntry → Entry
by_someone call = by.DriverCall (record { 0 = 0 }) call
