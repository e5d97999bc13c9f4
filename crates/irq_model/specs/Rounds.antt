-- The flow in progress and its rounds (`handle_irq_event`, `IRQD_IRQ_INPROGRESS` of
-- `kernel/irq/handle.c` and `chip.c`).
use Rattle.std.specs.Prelude.{Bool, false, not, ◌||◌, ◌&&◌, if◌then◌else◌, Option, Some, None}
use Rattle.std.specs.Prelude.{is_some, List, [], ◌∷◌}
use Rattle.std.specs.List.{list_any}
use Rattle.irq_base.specs.declared.numbers.CpuNo.{CpuNo}
use Rattle.irq_base.specs.declared.numbers.DevNo.{DevNo}
use Rattle.irq_base.specs.declared.lines.LineDef.{LineDef}
use Rattle.irq_base.specs.declared.entries.Entry.{Entry}
use Rattle.irq_base.specs.declared.entries.Entry.TheVariants as by
use Rattle.irq_base.specs.declared.entries.CpuEntry.TheVariants as cpus
use Rattle.irq_model.specs.Places.{since, last_of}
use Rattle.irq_model.specs.Kinds.{same_cpu, is_handle, is_again, is_leave, is_begin}
use Rattle.irq_model.specs.Kinds.{is_begin_or_return}
use Rattle.irq_model.specs.Lines.{is_eoi_flow}
use Rattle.irq_model.specs.Links.{is_linked}

-- an end that closes the flow: on the fast-EOI flow each end, on the others an end that doesn't go
-- on
abbrev pub closes : LineDef → Entry → Bool
closes def e = is_leave e || (is_eoi_flow def.flow && is_again e)

abbrev pub cpu_of_handle : Option Entry → Option CpuNo
cpu_of_handle (Some (by.Cpu cpu (cpus.Take way answer))) = Some cpu
cpu_of_handle _ = None

-- the processor of the last take that is handled, unless an end that closes follows it
abbrev pub flow : LineDef → List Entry → Option CpuNo
flow def past = cpu_of_handle (last_of (λ e. is_handle e || closes def e) past)

abbrev pub has_flow : LineDef → List Entry → Bool
has_flow def past = is_some (flow def past)

abbrev pub is_cpu : CpuNo → Option CpuNo → Bool
is_cpu c None = false
is_cpu c (Some f) = same_cpu c f

-- a round begins: at a take that is handled, or at an end with which the flow goes on
abbrev pub begins_round : LineDef → Entry → Bool
begins_round def e = is_handle e || (is_again e && not (is_eoi_flow def.flow))

-- the entries of the round so far
abbrev pub round : LineDef → List Entry → List Entry
round def past = since (begins_round def) past

-- d's handler was called in this round
abbrev pub has_begun : LineDef → List Entry → DevNo → Bool
has_begun def past d = list_any (is_begin d) (round def past)

-- d's handler is still to be called in this round (6.1 closes the list as its last handler returns;
-- here it is open until the end)
abbrev pub is_ahead : LineDef → List Entry → DevNo → Bool
is_ahead def past d = has_flow def past && (is_linked past d && not (has_begun def past d))

-- the first linked device that is still to be called
abbrev pub first_left : LineDef → List Entry → List DevNo → Option DevNo
first_left def past [] = None
first_left def past (d ∷ ds) = if has_begun def past d then first_left def past ds else Some d

abbrev pub dev_of_begin : Option Entry → Option DevNo
dev_of_begin (Some (by.Cpu cpu (cpus.Begin dev))) = Some dev
dev_of_begin _ = None

-- the device whose handler is at work: the device of the last begin, unless a return, of any
-- device, stands after that begin
abbrev pub at_work : List Entry → Option DevNo
at_work past = dev_of_begin (last_of is_begin_or_return past)
