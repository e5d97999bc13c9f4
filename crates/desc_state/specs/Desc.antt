-- The state of a line's descriptor, and what each call makes of it and of the line's signal cell.
use Rattle.std.specs.Prelude.{◌+◌, ◌-◌, ◌==◌, Bool, true, false, not, ◌||◌, ◌&&◌, if◌then◌else◌}
use Rattle.std.specs.Prelude.{nat_lt, None}
use Rattle.irq_base.specs.Cell.{Cell, is_edge_trigger, after_mask, after_unmask, after_retrigger}
use Rattle.irq_base.specs.Cell.{can_retrigger}
use Rattle.irq_base.specs.declared.entries.EnableAnswer.{EnableAnswer}
use Rattle.irq_base.specs.declared.entries.EnableAnswer.TheVariants as enables
use Rattle.irq_base.specs.declared.entries.Resend.{Resend}
use Rattle.irq_base.specs.declared.entries.Resend.TheVariants as resends
use Rattle.irq_base.specs.declared.lines.Trigger.{Trigger}
use Rattle.desc_state.specs.declared.marks.DescMarks.{DescMarks}

-- what is seen of a descriptor (`struct irq_desc`, `include/linux/irqdesc.h`): all its marks
abbrev pub DescSeen : Type 0
DescSeen = DescMarks

-- a line to which nothing was done
abbrev pub fresh_desc : Bool → DescSeen
fresh_desc unlazy = record {
  unlazy = unlazy;
  depth = 1;
  started = false;
  masked = true;
  pending = false;
  oneshot = false;
  spurious = false;
  soft = false;
  flow = None;
}

abbrev pub is_disabled : DescSeen → Bool
is_disabled d = nat_lt 0 d.depth

-- one disable more, which masks an unlazy line (`__disable_irq`, `kernel/irq/manage.c`;
-- `irq_disable`, `kernel/irq/chip.c`)
abbrev pub disabled : DescSeen → DescSeen
disabled d = record d { depth = d.depth + 1; masked = d.unlazy || d.masked }

abbrev pub masked_if : Bool → Cell → Cell
masked_if b c = if b then after_mask c else c

-- a storm disables the line (the end of `note_interrupt`, `kernel/irq/spurious.c`)
abbrev pub killed : DescSeen → DescSeen
killed d = record (disabled d) { spurious = true }

-- how a start sends again what is pending (`check_irq_resend`, `kernel/irq/resend.c`): a level
-- shows by itself
abbrev pub resend_by : Trigger → DescSeen → Cell → Resend
resend_by trigger d c =
    if is_edge_trigger trigger && d.pending
    then (if can_retrigger c then resends.Chip else resends.Soft) else resends.No

abbrev pub is_soft_resend : Resend → Bool
is_soft_resend resends.Soft = true
is_soft_resend resends.No = false
is_soft_resend resends.Chip = false

abbrev pub is_chip_resend : Resend → Bool
is_chip_resend resends.Chip = true
is_chip_resend resends.No = false
is_chip_resend resends.Soft = false

-- the line is started, and what was pending is sent again (`irq_startup`, `kernel/irq/chip.c`)
abbrev pub started_up : Resend → DescSeen → DescSeen
started_up resend d = record d {
  depth = 0;
  started = true;
  masked = false;
  pending = false;
  soft = is_soft_resend resend || d.soft;
}

abbrev pub cell_started : Resend → Cell → Cell
cell_started resend c =
    if is_chip_resend resend then after_retrigger (after_unmask c) else after_unmask c

-- the line is shut down (`irq_shutdown`, `kernel/irq/chip.c`); what is pending stays
abbrev pub shut_down : DescSeen → DescSeen
shut_down d = record d { depth = 1; started = false; masked = true }

-- what an enable answers (`__enable_irq`, `kernel/irq/manage.c`)
abbrev pub enable_by : Bool → Trigger → DescSeen → Cell → EnableAnswer
enable_by linked trigger d c =
    if (d.depth == 0) || not linked then enables.Unbalanced
    else (if d.depth == 1 then enables.Started (resend_by trigger d c) else enables.Lowered)

-- what an enable makes of the descriptor, by its answer
abbrev pub enabled : EnableAnswer → DescSeen → DescSeen
enabled enables.Unbalanced d = d
enabled enables.Lowered d = record d { depth = d.depth - 1 }
enabled (enables.Started resend) d = started_up resend d

-- what an enable makes of the cell, by its answer
abbrev pub cell_enabled : EnableAnswer → Cell → Cell
cell_enabled enables.Unbalanced c = c
cell_enabled enables.Lowered c = c
cell_enabled (enables.Started resend) c = cell_started resend c
