-- The entry that a step makes, what it leaves of the state, and what the step asks for.
use Rattle.std.specs.Prelude.{◌≡◌, ◌<◌, ◌^◌, ◌-◌, Bool, true, false, ◌&&◌, not, nat_lt}
use Rattle.irq_base.specs.declared.calls.Flags.{Flags}
use Rattle.irq_base.specs.declared.entries.Actor.{Actor}
use Rattle.irq_base.specs.declared.entries.CallEntry.{CallEntry}
use Rattle.irq_base.specs.declared.entries.CallEntry.TheVariants as called
use Rattle.irq_base.specs.declared.entries.Entry.{Entry}
use Rattle.irq_base.specs.declared.entries.Entry.TheVariants as by
use Rattle.irq_base.specs.declared.entries.CpuEntry.TheVariants as cpus
use Rattle.irq_base.specs.declared.entries.ThreadEntry.TheVariants as threads
use Rattle.irq_base.specs.declared.entries.DriverEntry.TheVariants as drivers
use Rattle.irq_base.specs.declared.lines.LineDef.{LineDef}
use Rattle.irq_base.specs.declared.numbers.CpuNo.{CpuNo}
use Rattle.irq_base.specs.declared.numbers.DevNo.{DevNo}
use Rattle.irq_base.specs.declared.numbers.DriverNo.{DriverNo}
use Rattle.irq_model.specs.Kinds.{is_linked_answer}
use Rattle.device_table.specs.Rows.{at, change}
use Rattle.act_list.specs.Actions.{has, is_bare, answer_by}
use Rattle.act_list.specs.Lists.{unlink_by}
use Rattle.act_thread.specs.Steps.{finished_row}
use Rattle.act_thread.specs.Threads.{held_in, finishes_at}
use Rattle.act_thread.specs.declared.rows.Finished.{Finished}
use Rattle.act_thread.specs.declared.rows.Finished.TheVariants as finishes
use Rattle.affinity.specs.Seen.{set_answer}
use Rattle.ask_counts.specs.Rows.{HasRoom, unserved_at}
use Rattle.desc_state.specs.Desc.{enable_by}
use Rattle.flow_handlers.specs.Flows.{may_open}
use Rattle.line_marks.specs.Calls.{ask_edge_by, arm_edge_by, wake_by}
use Rattle.line_marks.specs.CpuDue.{return_by, end_by, take_by}
use Rattle.line_marks.specs.DriversDue.{request_to}
use Rattle.line_marks.specs.Due.{thread_return_by}
use Rattle.line_marks.specs.Expected.{HasRounds, HasDepth, IsOpen}
use Rattle.line_marks.specs.Facts.{kind_at}
use Rattle.line_marks.specs.Freeing.{freeing_by_call}
use Rattle.line_marks.specs.State.{StateSeen, state_after}
use Rattle.spurious.specs.Seen.{after_reset}
use Rattle.line_state.specs.declared.due.CallStep.{CallStep}
use Rattle.line_state.specs.declared.due.CallStep.TheVariants as call_steps
use Rattle.line_state.specs.declared.due.CpuStep.{CpuStep}
use Rattle.line_state.specs.declared.due.CpuStep.TheVariants as cpu_steps
use Rattle.line_state.specs.declared.due.DriverStep.{DriverStep}
use Rattle.line_state.specs.declared.due.DriverStep.TheVariants as driver_steps
use Rattle.line_state.specs.declared.due.DueStep.{DueStep}
use Rattle.line_state.specs.declared.due.DueStep.TheVariants as steps
use Rattle.line_state.specs.declared.due.ThreadStep.{ThreadStep}
use Rattle.line_state.specs.declared.due.ThreadStep.TheVariants as thread_steps

-- ---- entries

-- the thread is to run again, or gives its bit up (`irq_finalize_oneshot`)
abbrev pub is_kept : Finished → Bool
is_kept finishes.Kept = true
is_kept _ = false

abbrev pub is_cleared : Finished → Bool
is_cleared finishes.Cleared = true
is_cleared _ = false

-- a finish that gives the thread's bit up opens the line, if no thread holds it then
abbrev pub opens_by : StateSeen → DevNo → Bool
opens_by s d = is_cleared (finishes_at s.threads d) && may_open
    (nat_lt 0 (held_in (change finished_row s.threads d))) s.desc

abbrev pub finish_by : StateSeen → DevNo → Entry
finish_by s d = by.Thread d (threads.Finish (is_kept (finishes_at s.threads d)) (opens_by s d))

-- what a step of a call comes to in that state, whoever makes it
abbrev pub call_made : LineDef → StateSeen → CallStep → CallEntry
call_made def s call_steps.Disable = called.Disable
call_made def s call_steps.HardClear = called.HardClear
call_made def s call_steps.Synced = called.Synced
call_made def s call_steps.Enable =
    called.Enable (enable_by (not (is_bare s.list.actions)) def.trigger s.desc s.cell)
call_made def s (call_steps.Unlink dev) = called.Unlink (unlink_by dev s.list.actions) dev
call_made def s (call_steps.Freed dev) = called.Freed dev
call_made def s (call_steps.Wake dev) = called.Wake (wake_by dev s) dev
call_made def s (call_steps.Quiet dev) = called.Quiet dev
call_made def s (call_steps.Arm dev) = called.Arm (arm_edge_by def dev s) dev
call_made def s (call_steps.Serve dev) = called.Serve dev (unserved_at s.asks dev)

-- the entry that a step of a processor makes
abbrev pub cpu_entry : LineDef → StateSeen → CpuNo → CpuStep → Entry
cpu_entry def s cpu (cpu_steps.Take way) = by.Cpu cpu (cpus.Take way (take_by s))
cpu_entry def s cpu (cpu_steps.Begin dev) = by.Cpu cpu (cpus.Begin dev)
cpu_entry def s cpu (cpu_steps.Call dev step) = by.CpuCall cpu (call_made def s step)
cpu_entry def s cpu (cpu_steps.Return dev) = return_by def s cpu dev
cpu_entry def s cpu cpu_steps.End = end_by def s cpu

-- that a step of a device's thread makes
abbrev pub thread_entry : LineDef → StateSeen → DevNo → ThreadStep → Entry
thread_entry def s dev thread_steps.Begin = by.Thread dev threads.Begin
thread_entry def s dev (thread_steps.Call step) = by.ThreadCall dev (call_made def s step)
thread_entry def s dev thread_steps.Return = thread_return_by def s dev
thread_entry def s dev thread_steps.Finish = finish_by s dev
thread_entry def s dev thread_steps.Done = by.Thread dev threads.Done

-- that a step of a driver makes
abbrev pub driver_entry : LineDef → StateSeen → DriverNo → DriverStep → Entry
driver_entry def s driver (driver_steps.Ask dev) =
    by.Driver driver (drivers.Ask (ask_edge_by def dev s) dev)
driver_entry def s driver (driver_steps.Request dev flags)
    = request_to def driver dev flags s (answer_by (kind_at s.facts dev) flags s.list.actions)
driver_entry def s driver (driver_steps.Affinity mask) =
    by.Driver driver (drivers.Affinity (set_answer s.aim mask) mask)
driver_entry def s driver (driver_steps.Moment at) = by.Driver driver (drivers.Moment at)
driver_entry def s driver (driver_steps.Call step) = by.DriverCall driver (call_made def s step)

-- that a step makes
abbrev pub entry_by : LineDef → StateSeen → DueStep → Entry
entry_by def s (steps.Cpu cpu step) = cpu_entry def s cpu step
entry_by def s (steps.Thread dev step) = thread_entry def s dev step
entry_by def s (steps.Driver driver step) = driver_entry def s driver step

-- ---- what is left of the state

-- what the step of a call makes of the state, but for the places of runs; who makes it matters to a
-- free alone
abbrev pub call_after : LineDef → Actor → CallEntry → StateSeen → StateSeen
call_after def a call s = record (state_after def (by.DriverCall (record { 0 = 0 }) call) s) {
  freeing = freeing_by_call a call s.freeing;
}

-- what a line takes over of an action that is linked (`__setup_irq`, `kernel/irq/manage.c`)
abbrev pub taken_over : Flags → StateSeen → StateSeen
taken_over flags s = record s {
  desc = record s.desc { oneshot = flags.oneshot; spurious = false };
  counts = after_reset s.counts;
}

-- ---- requests

-- the step links an action
abbrev pub links_by_driver : StateSeen → DriverStep → Bool
links_by_driver s (driver_steps.Request dev flags) =
    is_linked_answer (answer_by (kind_at s.facts dev) flags s.list.actions)
links_by_driver s _ = false

abbrev pub links_by : StateSeen → DueStep → Bool
links_by s (steps.Driver driver step) = links_by_driver s step
links_by s _ = false

-- ---- what a step asks for

-- what isn't disabled, and what is linked, was activated
pub record IsActivated (s : StateSeen) : Type 0 where
  pub enabled : s.desc.depth ≡ 0 → s.active ≡ true
  pub linked : is_bare s.list.actions ≡ false → s.active ≡ true

-- a step of a call: each count that it raises has room for one more
abbrev pub CanCall : CallStep → StateSeen → Type 0
CanCall call_steps.Disable s = HasDepth s
CanCall _ s = Unit {0}

-- a step of a processor
abbrev pub CanMakeOfCpu : LineDef → CpuStep → StateSeen → Type 0
CanMakeOfCpu def (cpu_steps.Take way) s = HasRounds s
CanMakeOfCpu def (cpu_steps.Call dev step) s = CanCall step s
CanMakeOfCpu def cpu_steps.End s = HasRounds s × HasDepth s × IsOpen def s
CanMakeOfCpu def _ s = Unit {0}

-- a step of a thread
abbrev pub CanMakeOfThread : ThreadStep → StateSeen → Type 0
CanMakeOfThread (thread_steps.Call step) s = CanCall step s
CanMakeOfThread thread_steps.Return s = s.counts.counts.threads_handled < 2 ^ 32 - 1
CanMakeOfThread _ s = Unit {0}

-- a step of a driver: besides, a device that is requested isn't linked
abbrev pub CanMakeOfDriver : DriverStep → StateSeen → Type 0
CanMakeOfDriver (driver_steps.Ask dev) s = HasRoom (at s.asks dev)
CanMakeOfDriver (driver_steps.Request dev flags) s = has dev s.list.actions ≡ false
CanMakeOfDriver (driver_steps.Call step) s = CanCall step s
CanMakeOfDriver _ s = Unit {0}

abbrev pub CanMake : LineDef → DueStep → StateSeen → Type 0
CanMake def (steps.Cpu cpu step) s = CanMakeOfCpu def step s
CanMake def (steps.Thread dev step) s = CanMakeOfThread step s
CanMake def (steps.Driver driver step) s = CanMakeOfDriver step s
