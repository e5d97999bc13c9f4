-- The entry that is due of a driver, read off its due call and the state of the line.
use Rattle.std.specs.Prelude.{ℕ, Bool, true, not, if◌then◌else◌, is_some, Option, Some, None}
use Rattle.std.specs.Prelude.{option_map}
use Rattle.irq_base.specs.declared.calls.Call.{Call}
use Rattle.irq_base.specs.declared.calls.Call.TheVariants as calls
use Rattle.irq_base.specs.declared.calls.Flags.{Flags}
use Rattle.irq_base.specs.declared.entries.Entry.{Entry}
use Rattle.irq_base.specs.declared.entries.Entry.TheVariants as by
use Rattle.irq_base.specs.declared.entries.DriverEntry.TheVariants as drivers
use Rattle.irq_base.specs.declared.entries.LinkAnswer.{LinkAnswer}
use Rattle.irq_base.specs.declared.entries.LinkAnswer.TheVariants as links
use Rattle.irq_base.specs.declared.entries.Opened.{Opened}
use Rattle.irq_base.specs.declared.entries.Opened.TheVariants as opens
use Rattle.irq_base.specs.declared.lines.LineDef.{LineDef}
use Rattle.irq_base.specs.declared.numbers.DevNo.{DevNo}
use Rattle.irq_base.specs.declared.numbers.DriverNo.{DriverNo}
use Rattle.irq_model.specs.Kinds.{opened_by_enable}
use Rattle.irq_model.specs.Lines.{has_device}
use Rattle.act_list.specs.Actions.{is_bare, answer_by}
use Rattle.affinity.specs.Seen.{set_answer}
use Rattle.desc_state.specs.Desc.{resend_by, enable_by}
use Rattle.line_marks.specs.Calls.{ask_edge_by, step_by}
use Rattle.line_marks.specs.Facts.{kind_at}
use Rattle.line_marks.specs.State.{StateSeen}

-- what a request that is linked makes of the depth
abbrev pub opened_by : LineDef → Flags → StateSeen → Opened
opened_by def flags s =
    if is_bare s.list.actions
    then (if flags.noauto then opens.No
    else opens.Started (resend_by def.trigger s.desc s.cell))
    else (if s.desc.spurious
    then opened_by_enable (enable_by (not (is_bare s.list.actions)) def.trigger s.desc s.cell)
    else opens.No)

abbrev pub request_to : LineDef → DriverNo → DevNo → Flags → StateSeen → LinkAnswer → Entry
request_to def r d flags s links.Linked =
    by.Driver r (drivers.Request flags links.Linked (opened_by def flags s) d)
request_to def r d flags s (links.Refused error) =
    by.Driver r (drivers.Request flags (links.Refused error) opens.No d)

-- by the driver's due call: what drivers alone call, or a step that all may make
abbrev pub driver_due : LineDef → StateSeen → DriverNo → Option (Call × ℕ) → Option Entry
driver_due def s r None = None
driver_due def s r (Some (calls.Ask d, n)) =
    Some (by.Driver r (drivers.Ask (ask_edge_by def d s) d))
driver_due def s r (Some (calls.Request d flags, n)) =
    if is_some s.freeing then None
    else Some (request_to def r d flags s (answer_by (kind_at s.facts d) flags s.list.actions))
driver_due def s r (Some (calls.Affinity mask, n)) =
    Some (by.Driver r (drivers.Affinity (set_answer s.aim mask) mask))
driver_due def s r (Some (calls.Moment at, n)) = Some (by.Driver r (drivers.Moment at))
driver_due def s r (Some due) = option_map (by.DriverCall r) (step_by def s due)

-- a call that asks asks a device of the line
abbrev pub asks_own : LineDef → Option (Call × ℕ) → Bool
asks_own def (Some (calls.Ask d, n)) = has_device def d
asks_own def _ = true
