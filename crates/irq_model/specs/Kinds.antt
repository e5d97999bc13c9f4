-- Tests on one entry.
use Rattle.std.specs.Prelude.{Bool, true, false, ◌&&◌, ◌==◌}
use Rattle.irq_base.specs.declared.numbers.LineNo.{LineNo}
use Rattle.irq_base.specs.declared.numbers.CpuNo.{CpuNo}
use Rattle.irq_base.specs.declared.numbers.DevNo.{DevNo}
use Rattle.irq_base.specs.declared.numbers.DriverNo.{DriverNo}
use Rattle.irq_base.specs.declared.devices.Answer.{Answer}
use Rattle.irq_base.specs.declared.devices.Answer.TheVariants as answers
use Rattle.irq_base.specs.declared.entries.Actor.{Actor}
use Rattle.irq_base.specs.declared.entries.Actor.TheVariants as actors
use Rattle.irq_base.specs.declared.entries.Entry.{Entry}
use Rattle.irq_base.specs.declared.entries.Entry.TheVariants as by
use Rattle.irq_base.specs.declared.entries.CpuEntry.TheVariants as cpus
use Rattle.irq_base.specs.declared.entries.ThreadEntry.TheVariants as threads
use Rattle.irq_base.specs.declared.entries.DriverEntry.TheVariants as drivers
use Rattle.irq_base.specs.declared.entries.CallEntry.{CallEntry}
use Rattle.irq_base.specs.declared.entries.CallEntry.TheVariants as called
use Rattle.irq_base.specs.declared.entries.Way.TheVariants as ways
use Rattle.irq_base.specs.declared.entries.TakeAnswer.TheVariants as takes
use Rattle.irq_base.specs.declared.entries.Note.TheVariants as notes
use Rattle.irq_base.specs.declared.entries.Resend.TheVariants as resends
use Rattle.irq_base.specs.declared.entries.EnableAnswer.{EnableAnswer}
use Rattle.irq_base.specs.declared.entries.EnableAnswer.TheVariants as enables
use Rattle.irq_base.specs.declared.entries.Opened.{Opened}
use Rattle.irq_base.specs.declared.entries.Opened.TheVariants as opens
use Rattle.irq_base.specs.declared.entries.LinkAnswer.{LinkAnswer}
use Rattle.irq_base.specs.declared.entries.LinkAnswer.TheVariants as links
use Rattle.irq_base.specs.declared.entries.UnlinkAnswer.{UnlinkAnswer}
use Rattle.irq_base.specs.declared.entries.UnlinkAnswer.TheVariants as unlinks
use Rattle.irq_base.specs.Who.{actor_of}

abbrev pub same_line : LineNo → LineNo → Bool
same_line a b = a.0 == b.0

abbrev pub same_cpu : CpuNo → CpuNo → Bool
same_cpu a b = a.0 == b.0

abbrev pub same_dev : DevNo → DevNo → Bool
same_dev a b = a.0 == b.0

abbrev pub same_driver : DriverNo → DriverNo → Bool
same_driver a b = a.0 == b.0

-- ---- calls, whoever makes them

-- the step of a call passes the test
abbrev pub is_call : (CallEntry → Bool) → Entry → Bool
is_call test (by.CpuCall cpu call) = test call
is_call test (by.ThreadCall dev call) = test call
is_call test (by.DriverCall driver call) = test call
is_call test _ = false

-- ---- asks and runs

abbrev pub is_any_ask : Entry → Bool
is_any_ask (by.Driver driver (drivers.Ask edge dev)) = true
is_any_ask _ = false

abbrev pub arms_with_edge : CallEntry → Bool
arms_with_edge (called.Arm edge dev) = edge
arms_with_edge _ = false

-- the device makes an edge, if the line is an edge line: by an ask, or as its own interrupt is
-- turned on over what is unserved
abbrev pub is_device_edge : Entry → Bool
is_device_edge (by.Driver driver (drivers.Ask edge dev)) = edge
is_device_edge e = is_call arms_with_edge e

abbrev pub is_ask : DevNo → Entry → Bool
is_ask d (by.Driver driver (drivers.Ask edge dev)) = same_dev d dev
is_ask d _ = false

abbrev pub is_begin : DevNo → Entry → Bool
is_begin d (by.Cpu cpu (cpus.Begin dev)) = same_dev d dev
is_begin d _ = false

abbrev pub is_return : DevNo → Entry → Bool
is_return d (by.Cpu cpu (cpus.Return answer dev served)) = same_dev d dev
is_return d _ = false

-- a handler begins, or returns
abbrev pub is_begin_or_return : Entry → Bool
is_begin_or_return (by.Cpu cpu (cpus.Begin dev)) = true
is_begin_or_return (by.Cpu cpu (cpus.Return answer dev served)) = true
is_begin_or_return _ = false

abbrev pub is_wake : Answer → Bool
is_wake answers.Wake = true
is_wake _ = false

abbrev pub is_handled : Answer → Bool
is_handled answers.Handled = true
is_handled _ = false

-- a return that answers Wake, or Handled, of any device
abbrev pub returns_wake : Entry → Bool
returns_wake (by.Cpu cpu (cpus.Return answer dev served)) = is_wake answer
returns_wake _ = false

abbrev pub returns_handled : Entry → Bool
returns_handled (by.Cpu cpu (cpus.Return answer dev served)) = is_handled answer
returns_handled _ = false

abbrev pub wakes_by_call : DevNo → CallEntry → Bool
wakes_by_call d (called.Wake woken dev) = woken && same_dev d dev
wakes_by_call d _ = false

-- d's thread is woken: by its handler's return, or by a call (`__irq_wake_thread`, from
-- `__handle_irq_event_percpu` and from `irq_wake_thread`)
abbrev pub wakes : DevNo → Entry → Bool
wakes d (by.Cpu cpu (cpus.Return answer dev served)) = same_dev d dev && is_wake answer
wakes d e = is_call (wakes_by_call d) e

-- ---- a device's own interrupt, and its service outside of a return

abbrev pub quiets : DevNo → CallEntry → Bool
quiets d (called.Quiet dev) = same_dev d dev
quiets d _ = false

abbrev pub turns_off : DevNo → Entry → Bool
turns_off d e = is_call (quiets d) e

abbrev pub arms : DevNo → CallEntry → Bool
arms d (called.Arm edge dev) = same_dev d dev
arms d _ = false

abbrev pub turns_on : DevNo → Entry → Bool
turns_on d e = is_call (arms d) e

abbrev pub serves_this : DevNo → CallEntry → Bool
serves_this d (called.Serve dev served) = same_dev d dev
serves_this d _ = false

abbrev pub is_serve : DevNo → Entry → Bool
is_serve d e = is_call (serves_this d) e

-- a call's step by a handler, and by d's thread
abbrev pub is_cpu_call : Entry → Bool
is_cpu_call (by.CpuCall cpu call) = true
is_cpu_call _ = false

abbrev pub is_thread_call : DevNo → Entry → Bool
is_thread_call d (by.ThreadCall dev call) = same_dev d dev
is_thread_call d _ = false

-- the step of a call by that actor
abbrev pub made_by : Actor → CallEntry → Entry
made_by (actors.Cpu c) call = by.CpuCall c call
made_by (actors.Thread d) call = by.ThreadCall d call
made_by (actors.Driver r) call = by.DriverCall r call

abbrev pub is_thread_begin : DevNo → Entry → Bool
is_thread_begin d (by.Thread dev threads.Begin) = same_dev d dev
is_thread_begin d _ = false

abbrev pub is_thread_return : DevNo → Entry → Bool
is_thread_return d (by.Thread dev (threads.Return handled served)) = same_dev d dev
is_thread_return d _ = false

abbrev pub is_finish : DevNo → Entry → Bool
is_finish d (by.Thread dev (threads.Finish kept unmask)) = same_dev d dev
is_finish d _ = false

-- a finish that gives the thread's bit up
abbrev pub is_cleared_finish : DevNo → Entry → Bool
is_cleared_finish d (by.Thread dev (threads.Finish false unmask)) = same_dev d dev
is_cleared_finish d _ = false

abbrev pub is_done : DevNo → Entry → Bool
is_done d (by.Thread dev threads.Done) = same_dev d dev
is_done d _ = false

-- ---- takes and ends

abbrev pub is_take : Entry → Bool
is_take (by.Cpu cpu (cpus.Take way answer)) = true
is_take _ = false

abbrev pub is_line_take : Entry → Bool
is_line_take (by.Cpu cpu (cpus.Take ways.Line answer)) = true
is_line_take _ = false

abbrev pub is_resend_take : Entry → Bool
is_resend_take (by.Cpu cpu (cpus.Take ways.Resend answer)) = true
is_resend_take _ = false

abbrev pub is_handle : Entry → Bool
is_handle (by.Cpu cpu (cpus.Take way takes.Handle)) = true
is_handle _ = false

abbrev pub is_busy : Entry → Bool
is_busy (by.Cpu cpu (cpus.Take way takes.Busy)) = true
is_busy _ = false

abbrev pub is_off : Entry → Bool
is_off (by.Cpu cpu (cpus.Take way takes.Off)) = true
is_off _ = false

-- an end that says `again`: an interrupt that came meanwhile is handled too
abbrev pub is_again : Entry → Bool
is_again (by.Cpu cpu (cpus.End again unmask note)) = again
is_again _ = false

abbrev pub is_leave : Entry → Bool
is_leave (by.Cpu cpu (cpus.End false unmask note)) = true
is_leave _ = false

-- an end whose note disables the line
abbrev pub is_kill : Entry → Bool
is_kill (by.Cpu cpu (cpus.End again unmask notes.Killed)) = true
is_kill _ = false

-- an end or a finish that unmasks
abbrev pub is_reopening : Entry → Bool
is_reopening (by.Cpu cpu (cpus.End again unmask note)) = unmask
is_reopening (by.Thread dev (threads.Finish kept unmask)) = unmask
is_reopening _ = false

-- ---- links

abbrev pub is_linked_answer : LinkAnswer → Bool
is_linked_answer links.Linked = true
is_linked_answer _ = false

-- a request that was linked
abbrev pub is_linked_request : Entry → Bool
is_linked_request (by.Driver driver (drivers.Request flags answer opened dev)) =
    is_linked_answer answer
is_linked_request _ = false

-- the request of d was linked
abbrev pub links_dev : DevNo → Entry → Bool
links_dev d (by.Driver driver (drivers.Request flags answer opened dev)) =
    same_dev d dev && is_linked_answer answer
links_dev d _ = false

abbrev pub is_unlinked_answer : UnlinkAnswer → Bool
is_unlinked_answer (unlinks.Unlinked last) = true
is_unlinked_answer _ = false

-- the first step of a free, of whatever device, that found it linked
abbrev pub unlinks_one : CallEntry → Bool
unlinks_one (called.Unlink answer dev) = is_unlinked_answer answer
unlinks_one _ = false

abbrev pub is_unlink : Entry → Bool
is_unlink e = is_call unlinks_one e

abbrev pub unlinks_this : DevNo → CallEntry → Bool
unlinks_this d (called.Unlink answer dev) = same_dev d dev && is_unlinked_answer answer
unlinks_this d _ = false

abbrev pub unlinks_dev : DevNo → Entry → Bool
unlinks_dev d e = is_call (unlinks_this d) e

abbrev pub unlinks_last : CallEntry → Bool
unlinks_last (called.Unlink (unlinks.Unlinked last) dev) = last
unlinks_last _ = false

-- an unlink that left nothing linked
abbrev pub is_last_unlink : Entry → Bool
is_last_unlink e = is_call unlinks_last e

abbrev pub frees : DevNo → CallEntry → Bool
frees d (called.Freed dev) = same_dev d dev
frees d _ = false

-- the last step of a free of d
abbrev pub is_freed : DevNo → Entry → Bool
is_freed d e = is_call (frees d) e

-- ---- starts

abbrev pub opened_by_enable : EnableAnswer → Opened
opened_by_enable enables.Unbalanced = opens.Unbalanced
opened_by_enable enables.Lowered = opens.Lowered
opened_by_enable (enables.Started resend) = opens.Started resend

abbrev pub opened_by_call : CallEntry → Opened
opened_by_call (called.Enable answer) = opened_by_enable answer
opened_by_call _ = opens.No

-- what an enable, or the enable within a request, made of the depth
abbrev pub opened_of : Entry → Opened
opened_of (by.CpuCall cpu call) = opened_by_call call
opened_of (by.ThreadCall dev call) = opened_by_call call
opened_of (by.DriverCall driver call) = opened_by_call call
opened_of (by.Driver driver (drivers.Request flags answer opened dev)) = opened
opened_of _ = opens.No

abbrev pub is_started_opened : Opened → Bool
is_started_opened (opens.Started resend) = true
is_started_opened _ = false

-- an entry that starts the line
abbrev pub is_start : Entry → Bool
is_start e = is_started_opened (opened_of e)

abbrev pub is_lowering_opened : Opened → Bool
is_lowering_opened opens.Lowered = true
is_lowering_opened (opens.Started resend) = true
is_lowering_opened _ = false

abbrev pub is_chip_opened : Opened → Bool
is_chip_opened (opens.Started resends.Chip) = true
is_chip_opened _ = false

abbrev pub is_soft_opened : Opened → Bool
is_soft_opened (opens.Started resends.Soft) = true
is_soft_opened _ = false

-- a start whose resend the chip makes
abbrev pub is_chip_start : Entry → Bool
is_chip_start e = is_chip_opened (opened_of e)

-- a start whose resend the software makes
abbrev pub is_soft_start : Entry → Bool
is_soft_start e = is_soft_opened (opened_of e)

-- ---- disables and waits

abbrev pub disables : CallEntry → Bool
disables called.Disable = true
disables _ = false

abbrev pub is_disable : Entry → Bool
is_disable e = is_call disables e

abbrev pub clears : CallEntry → Bool
clears called.HardClear = true
clears _ = false

abbrev pub is_hard_clear : Entry → Bool
is_hard_clear e = is_call clears e

abbrev pub syncs : CallEntry → Bool
syncs called.Synced = true
syncs _ = false

abbrev pub is_synced : Entry → Bool
is_synced e = is_call syncs e

-- ---- makers

abbrev pub same_actor : Actor → Actor → Bool
same_actor (actors.Thread d) (actors.Thread e) = same_dev d e
same_actor (actors.Cpu c) (actors.Cpu e) = same_cpu c e
same_actor (actors.Driver r) (actors.Driver s) = same_driver r s
same_actor _ _ = false

abbrev pub is_by : Actor → Entry → Bool
is_by a e = same_actor a (actor_of e)

abbrev pub is_driver : DriverNo → Actor → Bool
is_driver r (actors.Driver s) = same_driver r s
is_driver r _ = false

-- the driver made the entry
abbrev pub is_by_driver : DriverNo → Entry → Bool
is_by_driver r e = is_driver r (actor_of e)

abbrev pub unlinks_by : Actor → Entry → Bool
unlinks_by a e = is_by a e && is_unlink e

abbrev pub ends_free : CallEntry → Bool
ends_free (called.Freed dev) = true
ends_free _ = false

-- the last step of a free, of whatever device, by that actor
abbrev pub is_freed_by : Actor → Entry → Bool
is_freed_by a e = is_by a e && is_call ends_free e
