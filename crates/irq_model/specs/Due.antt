-- A driver's entries, laid beside its calls on the line in order, and the request mutex
-- (`desc->request_mutex`).
use Rattle.std.specs.Prelude.{ℕ, Bool, true, false, not, if◌then◌else◌, Option, Some, None, List}
use Rattle.std.specs.Prelude.{[], ◌∷◌, ◌&&◌, nat_lt, length, drop, filter, reverse}
use Rattle.std.specs.List.{list_any}
use Rattle.irq_base.specs.declared.numbers.DriverNo.{DriverNo}
use Rattle.irq_base.specs.declared.calls.Call.{Call}
use Rattle.irq_base.specs.declared.calls.Call.TheVariants as calls
use Rattle.irq_base.specs.declared.lines.LineDef.{LineDef}
use Rattle.irq_base.specs.declared.entries.Entry.{Entry}
use Rattle.irq_base.specs.declared.entries.Entry.TheVariants as by
use Rattle.irq_base.specs.declared.entries.CallEntry.{CallEntry}
use Rattle.irq_base.specs.declared.entries.CallEntry.TheVariants as called
use Rattle.irq_base.specs.declared.entries.UnlinkAnswer.TheVariants as unlinks
use Rattle.irq_base.specs.Who.{actor_of}
use Rattle.irq_model.specs.Places.{some_place}
use Rattle.irq_model.specs.Kinds.{is_call, is_unlink, same_driver, is_by_driver, is_freed_by}

abbrev pub calls_by : DriverNo → List (DriverNo × Call) → List Call
calls_by r [] = []
calls_by r (c ∷ cs) = if same_driver r c.0 then (c.1 ∷ calls_by r cs) else calls_by r cs

-- the driver's entries, the oldest first
abbrev pub entries_by : DriverNo → List Entry → List Entry
entries_by r past = reverse (filter (is_by_driver r) past)

abbrev pub finds_nothing : CallEntry → Bool
finds_nothing (called.Unlink unlinks.NotThere dev) = true
finds_nothing _ = false

-- the first entry of a free that found nothing to free
abbrev pub begins_not_there : List Entry → Bool
begins_not_there [] = false
begins_not_there (e ∷ es) = is_call finds_nothing e

-- how many entries a call makes, given the driver's entries from the call's first one on
abbrev pub entries_of_call : Call → List Entry → ℕ
entries_of_call (calls.Ask dev) es = 1
entries_of_call (calls.Request dev flags) es = 1
entries_of_call (calls.Free dev) es = if begins_not_there es then 1 else 3
entries_of_call calls.Disable es = 3
entries_of_call calls.DisableNosync es = 1
entries_of_call calls.Enable es = 1
entries_of_call calls.Sync es = 2
entries_of_call (calls.Affinity mask) es = 1
entries_of_call (calls.Moment at) es = 1
entries_of_call calls.SyncHard es = 1
entries_of_call calls.DisableHard es = 2
entries_of_call (calls.Wake dev) es = 1
entries_of_call (calls.Quiet dev) es = 1
entries_of_call (calls.Arm dev) es = 1
entries_of_call (calls.Serve dev) es = 1

-- the first call that isn't complete, and how many entries it has made
abbrev pub due_of : List Call → List Entry → Option (Call × ℕ)
due_of [] es = None
due_of (c ∷ cs) es =
    if nat_lt (length es) (entries_of_call c es) then Some (c, length es)
    else due_of cs (drop (entries_of_call c es) es)

abbrev pub due_call : LineDef → DriverNo → List Entry → Option (Call × ℕ)
due_call def r past = due_of (calls_by r def.calls) (entries_by r past)

-- the newest entry of `upto` unlinked a device, and the free that it began isn't complete
abbrev pub is_being_freed_at : List Entry → List Entry → Bool
is_being_freed_at after [] = false
is_being_freed_at after (e ∷ past) =
    is_unlink e && not (list_any (is_freed_by (actor_of e)) after)

-- the request mutex is held from an unlink until its maker has completed the free: until then
-- the device's thread may run, and no request may be given the thread's bit
abbrev pub holds_mutex : List Entry → Bool
holds_mutex past = some_place is_being_freed_at past
