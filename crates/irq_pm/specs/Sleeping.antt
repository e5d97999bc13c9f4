-- A line that one driver puts to sleep and opens again (`kernel/irq/pm.c`): it disables the line,
-- waits for the handlers and the threads, and later enables it. Read off the entries; the newest
-- comes first.
use Rattle.std.specs.Prelude.{Bool, true, false, not, ◌||◌, ◌&&◌, List}
use Rattle.std.specs.List.{list_any}
use Rattle.irq_base.specs.Who.{actor_of}
use Rattle.irq_base.specs.declared.calls.Call.{Call}
use Rattle.irq_base.specs.declared.calls.Call.TheVariants as calls
use Rattle.irq_base.specs.declared.lines.LineDef.{LineDef}
use Rattle.irq_base.specs.declared.numbers.DriverNo.{DriverNo}
use Rattle.irq_base.specs.declared.entries.Actor.{Actor}
use Rattle.irq_base.specs.declared.entries.Actor.TheVariants as actors
use Rattle.irq_base.specs.declared.entries.Entry.{Entry}
use Rattle.irq_base.specs.declared.entries.Entry.TheVariants as by
use Rattle.irq_base.specs.declared.entries.CallEntry.{CallEntry}
use Rattle.irq_base.specs.declared.entries.CallEntry.TheVariants as called
use Rattle.irq_model.specs.Places.{stands, since, before}
use Rattle.irq_model.specs.Kinds.{same_driver, is_call, is_any_ask, is_disable, is_linked_request}
use Rattle.irq_model.specs.Kinds.{is_unlink}

-- ---- the sleeper's entries

-- r disables the line (`suspend_device_irq` by `__disable_irq`)
abbrev pub is_disable_by : DriverNo → Entry → Bool
is_disable_by r (by.DriverCall driver called.Disable) = same_driver r driver
is_disable_by r _ = false

-- r has waited for the handlers and the threads (`suspend_device_irqs` by `synchronize_irq`)
abbrev pub is_synced_by : DriverNo → Entry → Bool
is_synced_by r (by.DriverCall driver called.Synced) = same_driver r driver
is_synced_by r _ = false

-- r enables the line (`resume_irq` by `__enable_irq`)
abbrev pub is_enable_by : DriverNo → Entry → Bool
is_enable_by r (by.DriverCall driver (called.Enable answer)) = same_driver r driver
is_enable_by r _ = false

-- the entries after r's last disable; below, the entries before it
abbrev pub since_disable : DriverNo → List Entry → List Entry
since_disable r past = since (is_disable_by r) past

abbrev pub before_disable : DriverNo → List Entry → List Entry
before_disable r past = before (is_disable_by r) past

-- ---- asleep

-- r's disable stands (`IRQS_SUSPENDED`)
abbrev pub is_suspended : DriverNo → List Entry → Bool
is_suspended r past = stands (is_disable_by r) (is_enable_by r) past

-- r's disable stands, and r has waited since: the line sleeps until r enables it
abbrev pub is_asleep : DriverNo → List Entry → Bool
is_asleep r past = is_suspended r past && list_any (is_synced_by r) (since_disable r past)

-- ---- what others do meanwhile

abbrev pub enables : CallEntry → Bool
enables (called.Enable answer) = true
enables _ = false

abbrev pub is_any_enable : Entry → Bool
is_any_enable e = is_call enables e

-- a driver wakes a thread; a handler can only within a flow, and so before the line sleeps
abbrev pub wakes_by_driver : Entry → Bool
wakes_by_driver (by.DriverCall driver (called.Wake woken dev)) = woken
wakes_by_driver _ = false

-- somebody disables or enables the line, or links or unlinks a device, or a driver wakes a thread
-- (`disable_irq`, `enable_irq`, `request_threaded_irq`, `free_irq`, `irq_wake_thread`)
abbrev pub disturbs : Entry → Bool
disturbs e = is_disable e
    || (is_any_enable e || (is_linked_request e || (is_unlink e || wakes_by_driver e)))

-- since r's disable nobody disturbed the line
abbrev pub is_left_alone : DriverNo → List Entry → Bool
is_left_alone r past = not (list_any disturbs (since_disable r past))

abbrev pub is_other_driver : DriverNo → Actor → Bool
is_other_driver r (actors.Driver s) = not (same_driver r s)
is_other_driver r _ = false

-- another driver made the entry, and it is no ask
abbrev pub is_other_call : DriverNo → Entry → Bool
is_other_call r e = is_other_driver r (actor_of e) && not (is_any_ask e)

-- Since r's disable the other drivers have only asked. In 6.1 tasks are frozen before lines are
-- suspended (`kernel/power/process.c`); devices go on.
abbrev pub others_only_ask : DriverNo → List Entry → Bool
others_only_ask r past = not (list_any (is_other_call r) (since_disable r past))

-- ---- lines whose runs leave them alone

-- a call that moves the line, or that waits
abbrev pub moves_or_waits : Call → Bool
moves_or_waits calls.Disable = true
moves_or_waits calls.DisableNosync = true
moves_or_waits calls.DisableHard = true
moves_or_waits calls.Enable = true
moves_or_waits (calls.Free dev) = true
moves_or_waits calls.Sync = true
moves_or_waits calls.SyncHard = true
moves_or_waits _ = false

-- no run disables or enables the line, frees a device or waits
abbrev pub has_calm_runs : LineDef → Bool
has_calm_runs def = not (list_any (λ c. moves_or_waits c.2) def.runs)
