-- The kinds of entries that a summary tells apart.
use Rattle.irq_base.specs.declared.entries.Note.{Note}
use Rattle.irq_base.specs.declared.entries.Note.TheVariants as notes
use Rattle.irq_base.specs.declared.entries.CpuEntry.{CpuEntry}
use Rattle.irq_base.specs.declared.entries.CpuEntry.TheVariants as cpus
use Rattle.irq_base.specs.declared.entries.ThreadEntry.{ThreadEntry}
use Rattle.irq_base.specs.declared.entries.ThreadEntry.TheVariants as threads
use Rattle.irq_base.specs.declared.entries.DriverEntry.{DriverEntry}
use Rattle.irq_base.specs.declared.entries.DriverEntry.TheVariants as drivers
use Rattle.irq_base.specs.declared.entries.CallEntry.{CallEntry}
use Rattle.irq_base.specs.declared.entries.CallEntry.TheVariants as called
use Rattle.irq_base.specs.declared.entries.Entry.{Entry}
use Rattle.irq_base.specs.declared.entries.Entry.TheVariants as by
use Rattle.irq_base.specs.declared.kinds.EntryKind.{EntryKind}
use Rattle.irq_base.specs.declared.kinds.EntryKind.TheVariants as kinds

-- an end changes the depth if it found too many interrupts unhandled
abbrev pub kind_of_end : Note → EntryKind
kind_of_end notes.Killed = kinds.Standing
kind_of_end _ = kinds.Other

abbrev pub kind_of_cpu : CpuEntry → EntryKind
kind_of_cpu (cpus.Take way answer) = kinds.Take
kind_of_cpu (cpus.Begin dev) = kinds.Begin
kind_of_cpu (cpus.Return answer dev served) = kinds.Return served
kind_of_cpu (cpus.End again unmask note) = kind_of_end note

abbrev pub kind_of_thread : ThreadEntry → EntryKind
kind_of_thread threads.Begin = kinds.ThreadBegin
kind_of_thread (threads.Return handled served) = kinds.ThreadReturn served
kind_of_thread _ = kinds.Other

abbrev pub kind_of_driver : DriverEntry → EntryKind
kind_of_driver (drivers.Ask edge dev) = kinds.Ask
kind_of_driver (drivers.Request flags answer opened dev) = kinds.Standing
kind_of_driver _ = kinds.Other

abbrev pub kind_of_call : CallEntry → EntryKind
kind_of_call called.Disable = kinds.Standing
kind_of_call (called.Enable answer) = kinds.Standing
kind_of_call (called.Unlink answer dev) = kinds.Standing
kind_of_call (called.Serve dev served) = kinds.Serve served
kind_of_call _ = kinds.Other

-- the kind of an entry, among the kinds that a summary tells apart
abbrev pub kind_of_entry : Entry → EntryKind
kind_of_entry (by.Cpu cpu e) = kind_of_cpu e
kind_of_entry (by.Thread dev e) = kind_of_thread e
kind_of_entry (by.Driver driver e) = kind_of_driver e
kind_of_entry (by.CpuCall cpu call) = kind_of_call call
kind_of_entry (by.ThreadCall dev call) = kind_of_call call
kind_of_entry (by.DriverCall driver call) = kind_of_call call
