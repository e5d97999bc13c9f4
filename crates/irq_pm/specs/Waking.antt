-- What wakes the machine: an interrupt that is taken on an armed line while the system's driver has
-- it disabled (`irq_pm_check_wakeup`, `kernel/irq/pm.c`). The newest move comes first.
use Rattle.std.specs.Prelude.{Bool, ◌&&◌, if◌then◌else◌, Option, Some, None, List, [], ◌∷◌}
use Rattle.std.specs.List.{list_any}
use Rattle.irq_base.specs.declared.numbers.LineNo.{LineNo}
use Rattle.irq_model.specs.Kinds.{same_line, is_off}
use Rattle.board_driver.specs.Longer.{last_driver}
use Rattle.board_play.specs.Lines.{Move, part}
use Rattle.irq_pm.specs.Sleeping.{is_disable_by}

abbrev pub is_among : LineNo → List LineNo → Bool
is_among line lines = list_any (same_line line) lines

-- the system's driver has disabled the line
abbrev pub was_disabled : LineNo → List Move → Bool
was_disabled line g = list_any (is_disable_by last_driver) (part line g)

-- the move, after those, is a take that is answered off, on an armed line that the system's driver
-- has disabled
abbrev pub wakes : List LineNo → List Move → Move → Bool
wakes armed g m = is_off m.1 && (is_among m.0 armed && was_disabled m.0 g)

abbrev pub or_number : Option LineNo → Option LineNo → Option LineNo
or_number None other = other
or_number (Some line) other = Some line

-- the line of the first move that wakes; none if none does
abbrev pub woken_by : List LineNo → List Move → Option LineNo
woken_by armed [] = None
woken_by armed (m ∷ g) = or_number (woken_by armed g) (if wakes armed g m then Some m.0 else None)
