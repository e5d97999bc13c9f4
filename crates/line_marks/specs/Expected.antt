-- What holds just before an entry that is due, which is what the entry's function asks for: its
-- answers are the state's, and the counts have room.
use Rattle.std.specs.Prelude.{◌≡◌, ◌<◌, ◌-◌, ◌^◌, true, false, not}
use Rattle.irq_base.specs.declared.entries.Entry.{Entry}
use Rattle.irq_base.specs.declared.entries.Entry.TheVariants as by
use Rattle.irq_base.specs.declared.entries.CpuEntry.TheVariants as cpus
use Rattle.irq_base.specs.declared.entries.ThreadEntry.TheVariants as threads
use Rattle.irq_base.specs.declared.entries.DriverEntry.TheVariants as drivers
use Rattle.irq_base.specs.declared.entries.CallEntry.{CallEntry}
use Rattle.irq_base.specs.declared.entries.CallEntry.TheVariants as called
use Rattle.irq_base.specs.declared.entries.LinkAnswer.{LinkAnswer}
use Rattle.irq_base.specs.declared.entries.LinkAnswer.TheVariants as links
use Rattle.irq_base.specs.declared.entries.Opened.{Opened}
use Rattle.irq_base.specs.declared.entries.Opened.TheVariants as opens
use Rattle.irq_base.specs.declared.calls.Flags.{Flags}
use Rattle.irq_base.specs.declared.lines.LineDef.{LineDef}
use Rattle.irq_model.specs.Lines.{is_edge_line, is_eoi_flow}
use Rattle.device_table.specs.Rows.{at}
use Rattle.act_list.specs.Actions.{is_bare, has, answer_by as link_answer_by}
use Rattle.act_list.specs.Lists.{unlink_by}
use Rattle.affinity.specs.Seen.{set_answer}
use Rattle.ask_counts.specs.Rows.{HasRoom, unserved_at}
use Rattle.desc_state.specs.Desc.{enable_by}
use Rattle.line_marks.specs.Acts.{killed_if, left_by}
use Rattle.line_marks.specs.Calls.{ask_edge_by, arm_edge_by, wake_by}
use Rattle.line_marks.specs.CpuDue.{take_by, note_by, is_held, end_with}
use Rattle.line_marks.specs.DriversDue.{opened_by}
use Rattle.line_marks.specs.Facts.{kind_at}
use Rattle.line_marks.specs.State.{StateSeen}

-- one more round fits
abbrev pub HasRounds : StateSeen → Type 0
HasRounds s = s.list.rounds < 2 ^ 32 - 2

-- one more disable fits
abbrev pub HasDepth : StateSeen → Type 0
HasDepth s = s.desc.depth < 2 ^ 32 - 1

-- an enabled edge line on the fast-EOI flow is open
abbrev pub IsOpen : LineDef → StateSeen → Type 0
IsOpen def s =
    is_edge_line def ≡ true → is_eoi_flow def.flow ≡ true → s.desc.depth ≡ 0 → s.cell.masked ≡ false

-- what a request makes of the depth, by its answer
abbrev pub opened_with : LineDef → Flags → StateSeen → LinkAnswer → Opened
opened_with def flags s links.Linked = opened_by def flags s
opened_with def flags s (links.Refused error) = opens.No

-- of the step of a call, whoever makes it
abbrev pub IsExpectedCall : LineDef → CallEntry → StateSeen → Type 0
IsExpectedCall def called.Disable s = HasDepth s
IsExpectedCall def (called.Enable answer) s =
    answer ≡ enable_by (not (is_bare s.list.actions)) def.trigger s.desc s.cell
IsExpectedCall def (called.Unlink answer dev) s = answer ≡ unlink_by dev s.list.actions
IsExpectedCall def (called.Wake woken dev) s = woken ≡ wake_by dev s
IsExpectedCall def (called.Arm edge dev) s = edge ≡ arm_edge_by def dev s
IsExpectedCall def (called.Serve dev count) s = count ≡ unserved_at s.asks dev
IsExpectedCall def _ s = Unit {0}

abbrev pub IsExpected : LineDef → Entry → StateSeen → Type 0
IsExpected def (by.Driver driver (drivers.Ask edge dev)) s =
    (edge ≡ ask_edge_by def dev s) × HasRoom (at s.asks dev)
IsExpected def (by.Cpu cpu (cpus.Take way answer)) s = (answer ≡ take_by s) × HasRounds s
IsExpected def (by.Cpu cpu (cpus.End again unmask note)) s =
    (by.Cpu cpu (cpus.End again unmask note) ≡ end_with cpu (note_by s)
    (left_by def def.flow (is_held s) (killed_if (note_by s) s.desc)))
    × HasRounds s × HasDepth s × IsOpen def s
IsExpected def (by.Thread dev (threads.Return handled served)) s
    = s.counts.counts.threads_handled < 2 ^ 32 - 1
IsExpected def (by.Driver driver (drivers.Request flags answer opened dev)) s =
    (has dev s.list.actions ≡ false)
    × (answer ≡ link_answer_by (kind_at s.facts dev) flags s.list.actions)
    × (opened ≡ opened_with def flags s answer)
IsExpected def (by.Driver driver (drivers.Affinity answer mask)) s = answer ≡ set_answer s.aim mask
IsExpected def (by.CpuCall cpu call) s = IsExpectedCall def call s
IsExpected def (by.ThreadCall dev call) s = IsExpectedCall def call s
IsExpected def (by.DriverCall driver call) s = IsExpectedCall def call s
IsExpected def _ s = Unit {0}
