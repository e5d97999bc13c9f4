-- The steps of calls, whoever made them, and the devices that entries link and unlink.
use Rattle.std.specs.Prelude.{Bool, false, ◌&&◌, Option, Some, None}
use Rattle.irq_base.specs.declared.numbers.DevNo.{DevNo}
use Rattle.irq_base.specs.declared.entries.CpuEntry.TheVariants as cpus
use Rattle.irq_base.specs.declared.entries.CallEntry.{CallEntry}
use Rattle.irq_base.specs.declared.entries.CallEntry.TheVariants as called
use Rattle.irq_base.specs.declared.entries.DriverEntry.TheVariants as drivers
use Rattle.irq_base.specs.declared.entries.LinkAnswer.TheVariants as links
use Rattle.irq_base.specs.declared.entries.UnlinkAnswer.TheVariants as unlinks
use Rattle.irq_base.specs.declared.entries.Entry.{Entry}
use Rattle.irq_base.specs.declared.entries.Entry.TheVariants as by
use Rattle.irq_model.specs.Kinds.{same_dev, is_wake, wakes_by_call}

-- the step of a call that the entry is
abbrev pub call_of : Entry → Option CallEntry
call_of (by.CpuCall cpu call) = Some call
call_of (by.ThreadCall dev call) = Some call
call_of (by.DriverCall driver call) = Some call
call_of _ = None

-- the two ways to wake d's thread: its handler's return, and a call
abbrev pub returns_and_wakes : DevNo → Entry → Bool
returns_and_wakes d (by.Cpu cpu (cpus.Return answer dev served)) = same_dev d dev && is_wake answer
returns_and_wakes d _ = false

abbrev pub wakes_by_some_call : DevNo → Option CallEntry → Bool
wakes_by_some_call d None = false
wakes_by_some_call d (Some call) = wakes_by_call d call

abbrev pub dev_linked : Entry → Option DevNo
dev_linked (by.Driver driver (drivers.Request flags links.Linked opened dev)) = Some dev
dev_linked _ = None

abbrev pub dev_unlinked_in : Option CallEntry → Option DevNo
dev_unlinked_in (Some (called.Unlink (unlinks.Unlinked last) dev)) = Some dev
dev_unlinked_in _ = None

abbrev pub dev_unlinked : Entry → Option DevNo
dev_unlinked e = dev_unlinked_in (call_of e)
