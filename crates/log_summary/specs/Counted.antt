-- What is counted of a history.
use Rattle.std.specs.Prelude.{ℕ, Bool, true, false}
use Rattle.irq_base.specs.declared.entries.Entry.{Entry}
use Rattle.irq_base.specs.declared.entries.Entry.TheVariants as by
use Rattle.irq_base.specs.declared.entries.CallEntry.{CallEntry}
use Rattle.irq_base.specs.declared.entries.CallEntry.TheVariants as called
use Rattle.irq_base.specs.declared.entries.CpuEntry.TheVariants as cpus
use Rattle.irq_base.specs.declared.entries.ThreadEntry.TheVariants as threads

-- a handler is called
abbrev pub is_run : Entry → Bool
is_run (by.Cpu cpu (cpus.Begin dev)) = true
is_run _ = false

-- a thread's handler is called
abbrev pub is_thread_run : Entry → Bool
is_thread_run (by.Thread dev threads.Begin) = true
is_thread_run _ = false

-- how many asks a call has served
abbrev pub served_by_call : CallEntry → ℕ
served_by_call (called.Serve dev served) = served
served_by_call _ = 0

-- how many asks an entry has served: a run that returns, of a handler or of a thread, or a call
abbrev pub served_by : Entry → ℕ
served_by (by.Cpu cpu (cpus.Return answer dev served)) = served
served_by (by.Thread dev (threads.Return handled served)) = served
served_by (by.CpuCall cpu call) = served_by_call call
served_by (by.ThreadCall dev call) = served_by_call call
served_by (by.DriverCall driver call) = served_by_call call
served_by _ = 0
