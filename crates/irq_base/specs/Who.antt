use Rattle.irq_base.specs.declared.entries.Entry.{Entry}
use Rattle.irq_base.specs.declared.entries.Entry.TheVariants as by
use Rattle.irq_base.specs.declared.entries.Actor.{Actor}
use Rattle.irq_base.specs.declared.entries.Actor.TheVariants as actors

-- Who made an entry of the line: a processor, the thread of a device, or a driver.
abbrev pub actor_of : Entry → Actor
actor_of (by.Cpu cpu e) = actors.Cpu cpu
actor_of (by.CpuCall cpu call) = actors.Cpu cpu
actor_of (by.Thread dev e) = actors.Thread dev
actor_of (by.ThreadCall dev call) = actors.Thread dev
actor_of (by.Driver driver e) = actors.Driver driver
actor_of (by.DriverCall driver call) = actors.Driver driver
