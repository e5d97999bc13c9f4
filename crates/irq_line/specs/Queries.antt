-- What is asked of a line after each step, so that nobody goes over all its actors.
use Rattle.std.specs.Prelude.{◌≡◌, ◌≤◌, ◌↔◌, Bool, false, IsTrue, IsSome, is_none, Option, Some}
use Rattle.std.specs.Prelude.{None}
use Rattle.std.specs.Prelude.{List, reverse}
use Rattle.irq_base.specs.declared.numbers.CpuNo.{CpuNo}
use Rattle.irq_base.specs.declared.numbers.DevNo.{DevNo}
use Rattle.irq_base.specs.declared.entries.Actor.{Actor}
use Rattle.irq_base.specs.declared.entries.Actor.TheVariants as actors
use Rattle.irq_base.specs.declared.entries.Entry.{Entry}
use Rattle.irq_base.specs.declared.lines.LineDef.{LineDef}
use Rattle.irq_base.specs.declared.waiting.Blocks.{Blocks}
use Rattle.irq_base.specs.declared.waiting.WaitFor.{WaitFor}
use Rattle.irq_base.specs.declared.waiting.WaitFor.TheVariants as waits
use Rattle.irq_model.specs.Due.{holds_mutex}
use Rattle.irq_model.specs.Kinds.{is_take}
use Rattle.irq_model.specs.Next.{next, next_past}
use Rattle.irq_model.specs.Rounds.{flow, has_flow}
use Rattle.irq_model.specs.Waits.{IsLowestHungPast}
use Rattle.irq_laws.specs.Blocks.{are_threads_at_work, is_freed_at_work}
use Rattle.irq_line.specs.Seen.{LineSeen}

abbrev pub is_some_take : Option Entry → Bool
is_some_take (Some e) = is_take e
is_some_take None = false

-- a take is due of the processor
abbrev pub IsPresented : LineSeen → CpuNo → Type 0
IsPresented line cpu = IsTrue (is_some_take (next line.def line.entries (actors.Cpu cpu)))

-- the processor of the flow in progress
abbrev pub flow_of : LineSeen → Option CpuNo
flow_of line = flow line.def (reverse line.entries)

-- a processor of the flow in progress that has no entry due: its handler waits for its own flow,
-- with interrupts off
abbrev pub spins_at : LineDef → List Entry → Option CpuNo → Bool
spins_at def past None = false
spins_at def past (Some c) = is_none (next_past def past (actors.Cpu c))

abbrev pub spins : LineSeen → Bool
spins line = spins_at line.def (reverse line.entries) (flow_of line)

-- the lowest actor that is hung on the line
abbrev pub IsLowestHung : LineSeen → Option Actor → Type 0
IsLowestHung line hung = IsLowestHungPast line.def (reverse line.entries) hung

-- takes are due of this processor, and of no other
abbrev pub IsTaker : LineSeen → Option CpuNo → Type 0
IsTaker line taker = (cpu : CpuNo) → (taker ≡ Some cpu) ↔ IsPresented line cpu

-- an entry is due of the device's thread
abbrev pub IsThreadDue : LineSeen → DevNo → Type 0
IsThreadDue line dev = IsSome (next line.def line.entries (actors.Thread dev))

-- the lowest device by number whose thread has an entry due; none if no thread has one
abbrev pub IsLowestThread : LineSeen → Option DevNo → Type 0
IsLowestThread line None = (dev : DevNo) → IsThreadDue line dev → ⊥
IsLowestThread line (Some lowest) =
    IsThreadDue line lowest × ((dev : DevNo) → IsThreadDue line dev → lowest.0 ≤ dev.0)

-- what drivers' calls wait for
abbrev pub blocks_at : LineDef → List Entry → Blocks
blocks_at def past = record {
  flow = has_flow def past;
  threads = are_threads_at_work def past;
  mutex = holds_mutex past;
  freed = is_freed_at_work def past;
}

abbrev pub blocks_of : LineSeen → Blocks
blocks_of line = blocks_at line.def (reverse line.entries)

-- whether a call that waits for this can't go on
abbrev pub is_blocked : WaitFor → Blocks → Bool
is_blocked waits.Nothing blocks = false
is_blocked waits.Flow blocks = blocks.flow
is_blocked waits.Threads blocks = blocks.threads
is_blocked waits.Mutex blocks = blocks.mutex
is_blocked waits.Freed blocks = blocks.freed
