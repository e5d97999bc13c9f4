-- What a row names, and whether a board has it.
use Rattle.std.specs.Prelude.{nat_lt, Bool, true, ◌&&◌, Option, Some, None}
use Rattle.std.specs.Option.{option_map_or}
use Rattle.board_def.specs.Rules.{find_device, has_driver, has_line, is_on_line}
use Rattle.board_def.specs.Seen.{BoardSeen}
use Rattle.irq_base.specs.Who.{actor_of}
use Rattle.irq_base.specs.declared.entries.Actor.{Actor}
use Rattle.irq_base.specs.declared.entries.Actor.TheVariants as actors
use Rattle.irq_base.specs.declared.entries.Entry.{Entry}
use Rattle.irq_base.specs.declared.entries.Entry.TheVariants as by
use Rattle.irq_base.specs.declared.entries.CpuEntry.{CpuEntry}
use Rattle.irq_base.specs.declared.entries.CpuEntry.TheVariants as cpus
use Rattle.irq_base.specs.declared.entries.DriverEntry.{DriverEntry}
use Rattle.irq_base.specs.declared.entries.DriverEntry.TheVariants as drivers
use Rattle.irq_base.specs.declared.entries.CallEntry.{CallEntry}
use Rattle.irq_base.specs.declared.entries.CallEntry.TheVariants as called
use Rattle.irq_base.specs.declared.numbers.DevNo.{DevNo}
use Rattle.irq_base.specs.declared.numbers.LineNo.{LineNo}
use Rattle.line_wanted.specs.declared.wanted.Wanted.{Wanted}
use Rattle.line_wanted.specs.declared.wanted.Wanted.TheVariants as wants

-- the device that the entry is about, if it is about one besides its maker's
abbrev pub dev_of_cpu : CpuEntry → Option DevNo
dev_of_cpu (cpus.Begin dev) = Some dev
dev_of_cpu (cpus.Return answer dev served) = Some dev
dev_of_cpu _ = None

abbrev pub dev_of_driver : DriverEntry → Option DevNo
dev_of_driver (drivers.Ask edge dev) = Some dev
dev_of_driver (drivers.Request flags answer opened dev) = Some dev
dev_of_driver _ = None

abbrev pub dev_of_call : CallEntry → Option DevNo
dev_of_call (called.Unlink answer dev) = Some dev
dev_of_call (called.Freed dev) = Some dev
dev_of_call (called.Wake woken dev) = Some dev
dev_of_call (called.Quiet dev) = Some dev
dev_of_call (called.Arm edge dev) = Some dev
dev_of_call (called.Serve dev served) = Some dev
dev_of_call _ = None

abbrev pub dev_named : Entry → Option DevNo
dev_named (by.Cpu cpu e) = dev_of_cpu e
dev_named (by.Thread dev e) = None
dev_named (by.Driver driver e) = dev_of_driver e
dev_named (by.CpuCall cpu call) = dev_of_call call
dev_named (by.ThreadCall dev call) = dev_of_call call
dev_named (by.DriverCall driver call) = dev_of_call call

-- the device, if one is named, is one of the line's
abbrev pub has_dev : BoardSeen → LineNo → Option DevNo → Bool
has_dev b line None = true
has_dev b line (Some dev) = is_on_line line (find_device b.devices dev)

-- the board has the processor or the driver; the thread's device is one of the line's
abbrev pub has_actor : BoardSeen → LineNo → Actor → Bool
has_actor b line (actors.Cpu cpu) = nat_lt cpu.0 b.cpus
has_actor b line (actors.Driver driver) = has_driver b.drivers driver
has_actor b line (actors.Thread dev) = is_on_line line (find_device b.devices dev)

-- the board has who and what the row names, the devices on that line
abbrev pub has_named : BoardSeen → LineNo → Wanted → Bool
has_named b line (wants.Row e) = has_actor b line (actor_of e) && has_dev b line (dev_named e)
has_named b line (wants.Rest left) = option_map_or (has_actor b line) left.hung true

-- the board has the line, and who and what the row names
abbrev pub has_all : BoardSeen → LineNo → Wanted → Bool
has_all b line wanted = has_line b.lines line && has_named b line wanted
