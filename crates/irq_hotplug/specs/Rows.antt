-- What is said as lines are placed.
use Rattle.std.specs.Prelude.{◌%◌, ◌==◌, Bool, true, not, Option, Some, None, List, [], ◌∷◌, ◌++◌}
use Rattle.irq_base.specs.declared.numbers.CpuNo.{CpuNo}
use Rattle.vector_matrix.specs.declared.view.Vector.{Vector}
use Rattle.irq_hotplug.specs.declared.berths.Berth.{Berth}
use Rattle.irq_hotplug.specs.declared.berths.Moving.{Moving}
use Rattle.irq_hotplug.specs.declared.berths.Moving.TheVariants as moving
use Rattle.irq_hotplug.specs.declared.rows.FleetRow.{FleetRow}
use Rattle.irq_hotplug.specs.declared.rows.FleetRow.TheVariants as rows

-- another processor takes the line's interrupts
abbrev pub is_move : Option CpuNo → CpuNo → Bool
is_move (Some now) cpu = not (now.0 == cpu.0)
is_move None cpu = true

-- a placed line: its vector, its queues, and its queue, which is the processor modulo the queues
abbrev pub placed_row : Berth → Vector → FleetRow
placed_row b v = rows.Placed b.line v b.queues (v.cpu.0 % b.queues) (is_move b.target v.cpu)

-- what is said of the line; of one that isn't placed anew nothing
abbrev pub rows_for : Moving → Berth → Option Vector → List FleetRow
rows_for moving b (Some v) = placed_row b v ∷ []
rows_for moving.All b None = rows.Unplaced b.line ∷ []
rows_for (moving.From cpu) b None = []

-- what is said of the lines with what they found, in their order
abbrev pub all_rows : Moving → List Berth → List (Option Vector) → List FleetRow
all_rows moving [] found = []
all_rows moving (b ∷ bs) [] = []
all_rows moving (b ∷ bs) (p ∷ ps) = rows_for moving b p ++ all_rows moving bs ps
