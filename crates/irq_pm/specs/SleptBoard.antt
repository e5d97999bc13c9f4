-- The board that sleeps: a driver of the system's own, behind all others, disables each line that
-- takes part, and then enables each (`suspend_device_irqs`, `resume_device_irqs`,
-- `kernel/irq/pm.c`).
use Rattle.std.specs.Prelude.{Bool, false, not, ◌&&◌, nat_lt, nat_le, Option, Some, None, List}
use Rattle.std.specs.Prelude.{◌++◌, length, map}
use Rattle.std.specs.List.{list_all, list_any}
use Rattle.irq_base.specs.declared.calls.Call.TheVariants as calls
use Rattle.irq_base.specs.declared.numbers.LineNo.{LineNo}
use Rattle.irq_model.specs.Kinds.{same_line}
use Rattle.board_def.specs.Layout.{layout_of}
use Rattle.board_def.specs.Rules.{has_driver}
use Rattle.board_def.specs.Seen.{BoardSeen}
use Rattle.board_def.specs.declared.rows.LineRow.{LineRow}
use Rattle.domain_rules.specs.Layout.{is_mapped}
use Rattle.domain_rules.specs.declared.layouts.Placement.{Placement}
use Rattle.irq_pm.specs.Sleeping.{moves_or_waits}
use Rattle.board_driver.specs.Longer.{last_driver, with_last_driver}
use Rattle.board_driver.specs.declared.adding.LineCall.{LineCall}
use Rattle.board_play.specs.Lines.{mapped}

-- the line with this placement takes part
abbrev pub is_mapped_at : Option Placement → Bool
is_mapped_at None = false
is_mapped_at (Some placement) = is_mapped placement

-- the rows of the lines that take part, in the board's order
abbrev pub live_rows : BoardSeen → List LineRow
live_rows b = mapped b.lines (layout_of b)

abbrev pub disable_of : LineRow → LineCall
disable_of row = record { line = row.line; call = calls.Disable }

abbrev pub enable_of : LineRow → LineCall
enable_of row = record { line = row.line; call = calls.Enable }

-- the script of the system's driver: each line is disabled, and then each is enabled
abbrev pub sleep_script : BoardSeen → List LineCall
sleep_script b = map disable_of (live_rows b) ++ map enable_of (live_rows b)

abbrev pub slept : BoardSeen → BoardSeen
slept b = with_last_driver b (sleep_script b)

-- ---- which boards can sleep, with these lines armed

-- the row is the line's, and a disable of the line leaves it open until its next interrupt
abbrev pub wakes_row : LineNo → LineRow → Bool
wakes_row line row = same_line row.line line && not row.unlazy

-- the line takes part, and its next interrupt comes through while it is disabled
abbrev pub can_wake : BoardSeen → LineNo → Bool
can_wake b line = list_any (wakes_row line) (live_rows b)

-- a driver of the system's own can be added with its calls
abbrev pub has_room_for_sleep : BoardSeen → Bool
has_room_for_sleep b =
    not (has_driver b.drivers last_driver)
    && (nat_lt (length b.drivers) 64 && nat_le (length b.calls) 16256)

-- each armed line can wake the machine
abbrev pub can_all_wake : BoardSeen → List LineNo → Bool
can_all_wake b armed = list_all (can_wake b) armed

-- no run of a handler or a thread disables or enables its line, frees a device or waits, be it on a
-- line that takes part or not: such a run could disable or open a line that sleeps
abbrev pub are_runs_calm : BoardSeen → Bool
are_runs_calm b = not (list_any (λ r. moves_or_waits r.call) b.runs)

abbrev pub is_for_sleep : BoardSeen → List LineNo → Bool
is_for_sleep b armed = can_all_wake b armed && (has_room_for_sleep b && are_runs_calm b)
