-- The counts of the asks of a line's devices, read off its past, and what an entry makes of them.
use Rattle.std.specs.Prelude.{ℕ, min, ◌&&◌, nat_lt, Option, Some, None, List}
use Rattle.irq_base.specs.declared.devices.Part.{Part}
use Rattle.irq_base.specs.declared.devices.Part.TheVariants as parts
use Rattle.irq_base.specs.declared.entries.Entry.{Entry}
use Rattle.irq_base.specs.declared.entries.Entry.TheVariants as by
use Rattle.irq_base.specs.declared.entries.CpuEntry.TheVariants as cpus
use Rattle.irq_base.specs.declared.entries.ThreadEntry.TheVariants as threads
use Rattle.irq_base.specs.declared.entries.DriverEntry.TheVariants as drivers
use Rattle.irq_base.specs.declared.entries.CallEntry.{CallEntry}
use Rattle.irq_base.specs.declared.entries.CallEntry.TheVariants as called_by
use Rattle.irq_base.specs.declared.lines.LineDef.{LineDef}
use Rattle.irq_base.specs.declared.numbers.DevNo.{DevNo}
use Rattle.irq_model.specs.Asks.{begins_run, is_quiet, serving, unserved_asks}
use Rattle.irq_model.specs.Kinds.{is_ask, is_serve}
use Rattle.irq_model.specs.Places.{since, count_of}
use Rattle.irq_model.specs.Runs.{met_by}
use Rattle.device_table.specs.Rows.{table_by, change}
use Rattle.ask_counts.specs.Rows.{asked, called, begun, served, emptied, turned_off, turned_on}
use Rattle.ask_counts.specs.declared.facts.DeviceFacts.{DeviceFacts}
use Rattle.ask_counts.specs.declared.rows.AskRow.{AskRow}
use Rattle.line_marks.specs.Facts.{serves_in}

-- how many asks came since a run that serves last began; all if none of them serves
abbrev pub since_begun : Option Part → DevNo → List Entry → ℕ
since_begun None d past = count_of (is_ask d) past
since_begun (Some part) d past = count_of (is_ask d) (since (begins_run part d) past)

-- what a run that serves would leave, if it returned now: what came since it began, and since a
-- call last served the device
abbrev pub fresh_asks : LineDef → DevNo → List Entry → ℕ
fresh_asks def d past =
    min (count_of (is_ask d) (since (is_serve d) past)) (since_begun (serving def d) d past)

-- the unserved asks now, and as the last run of the handler and of the thread began; and whether
-- the device is quiet
abbrev pub ask_row : LineDef → List Entry → DevNo → AskRow
ask_row def past d = record {
  unserved = unserved_asks def d past;
  fresh = fresh_asks def d past;
  met_by_handler = met_by def parts.Primary d past;
  met_by_thread = met_by def parts.Thread d past;
  quiet = is_quiet past d;
}

abbrev pub asks_of : LineDef → List Entry → List (DevNo × AskRow)
asks_of def past = table_by (ask_row def past) def.devices

-- what the step of a call makes of them, whoever makes it
abbrev pub asks_by_call : CallEntry → List (DevNo × AskRow) → List (DevNo × AskRow)
asks_by_call (called_by.Serve dev count) t = change emptied t dev
asks_by_call (called_by.Quiet dev) t = change turned_off t dev
asks_by_call (called_by.Arm edge dev) t = change turned_on t dev
asks_by_call _ t = t

-- a run counts as serving if its part is the one that serves; a return, if it served at all
abbrev pub asks_after : List (DevNo × DeviceFacts) → Entry → List (DevNo × AskRow)
    → List (DevNo × AskRow)
asks_after facts (by.Driver driver (drivers.Ask edge dev)) t = change asked t dev
asks_after facts (by.Cpu cpu (cpus.Begin dev)) t =
    change (called (serves_in facts parts.Primary dev)) t dev
asks_after facts (by.Cpu cpu (cpus.Return answer dev n)) t =
    change (served (serves_in facts parts.Primary dev && nat_lt 0 n)) t dev
asks_after facts (by.Thread dev threads.Begin) t =
    change (begun (serves_in facts parts.Thread dev)) t dev
asks_after facts (by.Thread dev (threads.Return handled n)) t =
    change (served (serves_in facts parts.Thread dev && nat_lt 0 n)) t dev
asks_after facts (by.CpuCall cpu call) t = asks_by_call call t
asks_after facts (by.ThreadCall dev call) t = asks_by_call call t
asks_after facts (by.DriverCall driver call) t = asks_by_call call t
asks_after facts _ t = t
