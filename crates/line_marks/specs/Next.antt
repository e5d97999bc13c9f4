-- The entry that is due of an actor, read off the state of the line and the driver's due call.
use Rattle.std.specs.Prelude.{ℕ, Option, List}
use Rattle.irq_base.specs.declared.calls.Call.{Call}
use Rattle.irq_base.specs.declared.entries.Actor.{Actor}
use Rattle.irq_base.specs.declared.entries.Actor.TheVariants as actors
use Rattle.irq_base.specs.declared.entries.Entry.{Entry}
use Rattle.irq_base.specs.declared.lines.LineDef.{LineDef}
use Rattle.irq_base.specs.declared.numbers.DriverNo.{DriverNo}
use Rattle.irq_model.specs.Laid.{with_count}
use Rattle.line_scripts.specs.Rows.{RowSeen, call_of, within_of}
use Rattle.line_marks.specs.CpuDue.{cpu_due}
use Rattle.line_marks.specs.DriversDue.{driver_due}
use Rattle.line_marks.specs.Due.{thread_due}
use Rattle.line_marks.specs.State.{StateSeen}

-- the driver's first call that isn't complete, and how many entries it has made
abbrev pub due_call_in : List (DriverNo × RowSeen) → DriverNo → Option (Call × ℕ)
due_call_in scripts r = with_count (call_of scripts r) (within_of scripts r)

abbrev pub due_by : LineDef → StateSeen → List (DriverNo × RowSeen) → Actor → Option Entry
due_by def s scripts (actors.Thread d) = thread_due def s d
due_by def s scripts (actors.Cpu c) = cpu_due def s c
due_by def s scripts (actors.Driver r) = driver_due def s r (due_call_in scripts r)
