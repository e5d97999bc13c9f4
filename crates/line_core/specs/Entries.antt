-- The entry that a step of a line makes.
use Rattle.std.specs.Prelude.{reverse}
use Rattle.irq_base.specs.declared.entries.Entry.{Entry}
use Rattle.irq_line.specs.Seen.{LineSeen}
use Rattle.line_marks.specs.State.{state_of}
use Rattle.line_state.specs.Entries.{entry_by}
use Rattle.line_state.specs.declared.due.DueStep.{DueStep}

-- in the state that the line's history comes to
abbrev pub entry_at : LineSeen → DueStep → Entry
entry_at line step = entry_by line.def (state_of line.def (reverse line.entries)) step
