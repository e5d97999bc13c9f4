-- How far each driver is with its calls on the line.
use Rattle.std.specs.Prelude.{◌≡◌, ℕ, Option, Some, None, List, length}
use Rattle.irq_base.specs.declared.calls.Call.{Call}
use Rattle.irq_base.specs.declared.entries.Entry.{Entry}
use Rattle.irq_base.specs.declared.lines.LineDef.{LineDef}
use Rattle.irq_base.specs.declared.numbers.DriverNo.{DriverNo}
use Rattle.irq_model.specs.Due.{due_call}
use Rattle.irq_laws.specs.Kept.{complete_by}

-- how many of the driver's calls are complete
abbrev pub place_by : LineDef → DriverNo → List Entry → ℕ
place_by def r past = length (complete_by def r past)

abbrev pub count_in : Option (Call × ℕ) → ℕ
count_in None = 0
count_in (Some (c, n)) = n

-- how many entries the driver's first incomplete call has made
abbrev pub within_by : LineDef → DriverNo → List Entry → ℕ
within_by def r past = count_in (due_call def r past)

-- each driver is as far after the one past as after the other
abbrev pub SamePlaces : LineDef → List Entry → List Entry → Type 0
SamePlaces def g h = (r : DriverNo)
    → (place_by def r g ≡ place_by def r h) × (within_by def r g ≡ within_by def r h)
