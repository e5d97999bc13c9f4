-- What holds just before an entry that is due, as far as the canonical state after it asks for it.
use Rattle.std.specs.Prelude.{◌≡◌, ◌≤◌, true, Some}
use Rattle.irq_base.specs.declared.entries.Entry.{Entry}
use Rattle.irq_base.specs.declared.entries.Entry.TheVariants as by
use Rattle.irq_base.specs.declared.entries.CpuEntry.TheVariants as cpus
use Rattle.irq_base.specs.declared.entries.ThreadEntry.TheVariants as threads
use Rattle.device_table.specs.Rows.{HasOwnKeys}
use Rattle.line_marks.specs.State.{StateSeen}
use Rattle.line_futures.specs.Canon.{in_flow, is_thread_working}

-- the handler that returns is at work; the flow that goes on is in progress
abbrev pub IsMade : Entry → StateSeen → Type 0
IsMade (by.Cpu cpu (cpus.Begin dev)) s = in_flow s ≡ true
IsMade (by.Cpu cpu (cpus.Return answer dev served)) s = s.round.working ≡ Some dev
IsMade (by.Cpu cpu (cpus.End again unmask note)) s = in_flow s ≡ true
IsMade (by.Thread dev (threads.Return handled served)) s = is_thread_working s.threads dev ≡ true
IsMade _ s = Unit {0}

-- no run of a thread that served is forgotten, and each device has one row in each table
pub record MayFollow (e : Entry) (s : StateSeen) : Type 0 where
  pub made : IsMade e s
  pub served : s.counts.counts.last ≤ s.counts.counts.threads_handled
  pub own : HasOwnKeys s.asks
  pub own_runs : HasOwnKeys s.places.rows
