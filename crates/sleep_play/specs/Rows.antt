-- What is printed of a sleep: the layout, and a row for each step and each mark.
use Rattle.std.specs.Prelude.{ℕ, Option, Some, None, List, ◌++◌, codes, decimal}
use Rattle.std.specs.List.{flat_map}
use Rattle.irq_base.specs.declared.numbers.LineNo.{LineNo}
use Rattle.board_def.specs.Seen.{BoardSeen}
use Rattle.log_text.specs.LayoutRows.{layout_rows}
use Rattle.log_text.specs.Rows.{entry_text}
use Rattle.irq_pm.specs.declared.entries.SleepEntry.{SleepEntry}
use Rattle.irq_pm.specs.declared.entries.SleepEntry.TheVariants as sleeps

abbrev pub asleep_text : List ℕ
asleep_text = codes "# asleep\n"

-- the line that woke the machine, or `none`
abbrev pub waker_word : Option LineNo → List ℕ
waker_word (Some line) = decimal line.0
waker_word None = codes "none"

abbrev pub wake_text : Option LineNo → List ℕ
wake_text line = codes "# wake " ++ waker_word line ++ codes "\n"

abbrev pub step_text : SleepEntry → List ℕ
step_text (sleeps.Step line entry) = entry_text line entry
step_text sleeps.Asleep = asleep_text
step_text (sleeps.Wake line) = wake_text line

-- a row for each step and mark, the oldest first
abbrev pub log_text : List SleepEntry → List ℕ
log_text g = flat_map step_text g

abbrev pub sleep_text : BoardSeen → List SleepEntry → List ℕ
sleep_text b g = layout_rows b ++ log_text g
