-- The step of a call that drivers, handlers and threads make alike, read off the state of the line.
use Rattle.std.specs.Prelude.{ℕ, ◌==◌, Bool, not, ◌||◌, ◌&&◌, if◌then◌else◌, nat_lt, is_some}
use Rattle.std.specs.Prelude.{Option, Some, None}
use Rattle.irq_base.specs.Handlers.{has_thread}
use Rattle.irq_base.specs.declared.calls.Call.{Call}
use Rattle.irq_base.specs.declared.calls.Call.TheVariants as calls
use Rattle.irq_base.specs.declared.entries.CallEntry.{CallEntry}
use Rattle.irq_base.specs.declared.entries.CallEntry.TheVariants as called
use Rattle.irq_base.specs.declared.lines.LineDef.{LineDef}
use Rattle.irq_base.specs.declared.numbers.DevNo.{DevNo}
use Rattle.irq_model.specs.Lines.{is_edge_line}
use Rattle.act_list.specs.Actions.{is_bare, has}
use Rattle.act_list.specs.Lists.{unlink_by}
use Rattle.act_thread.specs.Threads.{active_in, is_idle_at, wakes_at}
use Rattle.ask_counts.specs.Facts.{facts_at}
use Rattle.ask_counts.specs.Rows.{unserved_at, is_quiet_at}
use Rattle.desc_state.specs.Desc.{enable_by}
use Rattle.line_marks.specs.Facts.{kind_at}
use Rattle.line_marks.specs.State.{StateSeen}

-- what a call waits for: the end of the flow, all threads at rest, the device's thread at rest, the
-- mutex
abbrev pub clear_by : StateSeen → Option CallEntry
clear_by s = if is_some s.desc.flow then None else Some called.HardClear

abbrev pub synced_by : StateSeen → Option CallEntry
synced_by s = if active_in s.threads == 0 then Some called.Synced else None

abbrev pub freed_by : DevNo → StateSeen → Option CallEntry
freed_by d s = if is_idle_at s.threads d then Some (called.Freed d) else None

abbrev pub free_by : DevNo → ℕ → StateSeen → Option CallEntry
free_by d n s =
    if n == 0
    then (if is_some s.freeing then None
    else Some (called.Unlink (unlink_by d s.list.actions) d))
    else (if n == 1 then clear_by s else freed_by d s)

abbrev pub disable_by : ℕ → StateSeen → Option CallEntry
disable_by n s =
    if n == 0 then Some called.Disable else (if n == 1 then clear_by s else synced_by s)

abbrev pub disable_hard_by : ℕ → StateSeen → Option CallEntry
disable_hard_by n s = if n == 0 then Some called.Disable else clear_by s

abbrev pub sync_by : ℕ → StateSeen → Option CallEntry
sync_by n s = if n == 0 then clear_by s else synced_by s

-- a wake by a call wakes the thread of a linked device that has one, unless it is to run already
abbrev pub wake_by : DevNo → StateSeen → Bool
wake_by d s = wakes_at (has d s.list.actions && has_thread (kind_at s.facts d)) s.threads d

-- an ask makes an edge unless the device is quiet, or its signal still stands
abbrev pub ask_edge_by : LineDef → DevNo → StateSeen → Bool
ask_edge_by def d s = not (is_edge_line def)
    || (not (is_quiet_at s.asks d)
    && (not (facts_at s.facts d).held || (unserved_at s.asks d == 0)))

-- an arm makes one over what is unserved, unless the device isn't quiet, or forgets
abbrev pub arm_edge_by : LineDef → DevNo → StateSeen → Bool
arm_edge_by def d s = is_edge_line def
    && (is_quiet_at s.asks d
    && (nat_lt 0 (unserved_at s.asks d) && not (facts_at s.facts d).forgets))

abbrev pub step_by : LineDef → StateSeen → Call × ℕ → Option CallEntry
step_by def s (calls.Free d, n) = free_by d n s
step_by def s (calls.Disable, n) = disable_by n s
step_by def s (calls.DisableNosync, n) = Some called.Disable
step_by def s (calls.Enable, n) =
    Some (called.Enable (enable_by (not (is_bare s.list.actions)) def.trigger s.desc s.cell))
step_by def s (calls.Sync, n) = sync_by n s
step_by def s (calls.SyncHard, n) = clear_by s
step_by def s (calls.DisableHard, n) = disable_hard_by n s
step_by def s (calls.Wake d, n) = Some (called.Wake (wake_by d s) d)
step_by def s (calls.Quiet d, n) = Some (called.Quiet d)
step_by def s (calls.Arm d, n) = Some (called.Arm (arm_edge_by def d s) d)
step_by def s (calls.Serve d, n) = Some (called.Serve d (unserved_at s.asks d))
step_by def s _ = None
