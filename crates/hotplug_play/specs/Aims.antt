-- The interrupts of a line go where it is placed.
use Rattle.std.specs.Prelude.{◌≡◌, ℕ, Some, List, reverse, slice_get, All}
use Rattle.irq_base.specs.declared.entries.Entry.{Entry}
use Rattle.irq_base.specs.declared.entries.Entry.TheVariants as by
use Rattle.irq_base.specs.declared.entries.CpuEntry.TheVariants as cpus
use Rattle.irq_base.specs.declared.lines.LineDef.{LineDef}
use Rattle.irq_base.specs.declared.numbers.CpuNo.{CpuNo}
use Rattle.irq_base.specs.declared.numbers.LineNo.{LineNo}
use Rattle.irq_model.specs.Kinds.{is_by_driver}
use Rattle.irq_model.specs.Places.{since}
use Rattle.irq_model.specs.Signal.{target}
use Rattle.board_def.specs.LineOf.{line_of_row}
use Rattle.board_def.specs.Seen.{BoardSeen}
use Rattle.board_def.specs.declared.rows.LineRow.{LineRow}
use Rattle.board_driver.specs.Longer.{last_driver}
use Rattle.irq_hotplug.specs.Berths.{place_of}
use Rattle.irq_hotplug.specs.Fleet.{FleetSeen}
use Rattle.irq_hotplug.specs.declared.berths.Place.{Place}
use Rattle.hotplug_plan.specs.Planned.{planned}

-- if the entry is a take, it is by this processor
abbrev pub IsTakenBy : CpuNo → Entry → Type 0
IsTakenBy cpu (by.Cpu c (cpus.Take way answer)) = c ≡ cpu
IsTakenBy cpu _ = Unit {0}

-- At the end of the history the processor takes the line's interrupts; and after the last entry of
-- driver 65535 each take is by it.
pub record AimsAt (cpu : CpuNo) (def : LineDef) (h : List Entry) : Type 0 where
  pub target_is : target def (reverse h) ≡ Some cpu
  pub takes : All (IsTakenBy cpu) (since (is_by_driver last_driver) (reverse h))

-- the interrupts of each placed line go where it is placed, by these histories of the planned board
abbrev pub AimEach : BoardSeen → FleetSeen → (LineNo → List Entry) → Type 0
AimEach b f entries =
    (i : ℕ) (row : LineRow) (place : Place) → slice_get b.lines i ≡ Some row
    → place_of f.berths row.line ≡ Some place
    → AimsAt place.cpu (line_of_row (planned b f) row) (entries row.line)
