-- Interrupts that wait without a signal: pending (`IRQS_PENDING`, `kernel/irq/chip.c`) and a
-- software resend (`kernel/irq/resend.c`).
use Rattle.std.specs.Prelude.{Bool, ◌||◌, ◌&&◌, List}
use Rattle.irq_base.specs.declared.lines.LineDef.{LineDef}
use Rattle.irq_base.specs.declared.entries.Entry.{Entry}
use Rattle.irq_model.specs.Places.{stands}
use Rattle.irq_model.specs.Kinds.{is_handle, is_busy, is_off, is_again, is_start, is_soft_start}
use Rattle.irq_model.specs.Kinds.{is_resend_take}
use Rattle.irq_model.specs.Lines.{is_edge_line}

-- a take that leaves the interrupt pending: answered Off, or on an edge line answered Busy
abbrev pub sets_pending : LineDef → Entry → Bool
sets_pending def e = is_off e || (is_edge_line def && is_busy e)

abbrev pub clears_pending : Entry → Bool
clears_pending e = is_handle e || (is_again e || is_start e)

abbrev pub is_pending : LineDef → List Entry → Bool
is_pending def past = stands (sets_pending def) clears_pending past

-- a start asked for a software resend, and no take by resend came since
abbrev pub is_soft : List Entry → Bool
is_soft past = stands is_soft_start is_resend_take past
