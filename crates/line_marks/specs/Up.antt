-- Whether the line's domains are activated (`is_up`), read off the actions and the free under way;
-- and what an entry makes of it.
use Rattle.std.specs.Prelude.{Bool, not, ◌||◌, ◌&&◌, Option, is_some}
use Rattle.irq_base.specs.declared.entries.Actor.{Actor}
use Rattle.irq_base.specs.declared.entries.Entry.{Entry}
use Rattle.irq_base.specs.declared.entries.Entry.TheVariants as by
use Rattle.irq_base.specs.declared.entries.DriverEntry.TheVariants as drivers
use Rattle.irq_base.specs.declared.entries.CallEntry.{CallEntry}
use Rattle.irq_base.specs.declared.entries.CallEntry.TheVariants as called
use Rattle.irq_base.specs.declared.entries.LinkAnswer.TheVariants as links
use Rattle.irq_base.specs.declared.numbers.DevNo.{DevNo}

-- something is linked, or the last unlinked device is being freed
abbrev pub up_by : Bool → Option (Actor × DevNo) → Bool
up_by bare freeing = not bare || is_some freeing

-- the step of a call, whoever makes it
abbrev pub active_by_call : Bool → CallEntry → Bool → Bool
active_by_call bare (called.Freed dev) active = not bare && active
active_by_call bare _ active = active

-- `bare`: nothing was linked before the entry. A first request activates, and the free of the last
-- action deactivates
abbrev pub active_after : Bool → Entry → Bool → Bool
active_after bare (by.Driver driver (drivers.Request flags links.Linked opened dev)) active
    = bare || active
active_after bare (by.CpuCall cpu call) active = active_by_call bare call active
active_after bare (by.ThreadCall dev call) active = active_by_call bare call active
active_after bare (by.DriverCall driver call) active = active_by_call bare call active
active_after bare _ active = active
