-- How far the runs of a line's devices are with their calls, and which answers told devices have,
-- read off the line's past; and what an entry makes of it.
use Rattle.std.specs.Prelude.{ℕ, ◌+◌, min, Bool, false, ◌||◌, if◌then◌else◌, nat_lt, Option, Some}
use Rattle.std.specs.Prelude.{None, List, [], ◌∷◌, length, drop, filter, reverse, slice_get}
use Rattle.irq_base.specs.declared.calls.Call.{Call}
use Rattle.irq_base.specs.declared.devices.Part.{Part}
use Rattle.irq_base.specs.declared.devices.Part.TheVariants as parts
use Rattle.irq_base.specs.declared.entries.Entry.{Entry}
use Rattle.irq_base.specs.declared.entries.Entry.TheVariants as by
use Rattle.irq_base.specs.declared.entries.CpuEntry.TheVariants as cpus
use Rattle.irq_base.specs.declared.entries.ThreadEntry.TheVariants as threads
use Rattle.irq_base.specs.declared.lines.LineDef.{LineDef}
use Rattle.irq_base.specs.declared.numbers.DevNo.{DevNo}
use Rattle.irq_model.specs.Asks.{begins_run}
use Rattle.irq_model.specs.Due.{entries_of_call}
use Rattle.irq_model.specs.Kinds.{is_thread_begin, is_thread_call, is_thread_return}
use Rattle.irq_model.specs.Lines.{run_script, told_answers}
use Rattle.irq_model.specs.Places.{since, count_of}
use Rattle.irq_model.specs.Rounds.{at_work}
use Rattle.irq_model.specs.Runs.{entries_of_run, runs_before}
use Rattle.device_table.specs.Rows.{table_by}
use Rattle.line_scripts.specs.Endings.{completes}
use Rattle.run_scripts.specs.Places.{PlacesSeen, first_place, place_at, after_begin, after_return}
use Rattle.run_scripts.specs.Places.{after_call}
use Rattle.run_scripts.specs.declared.rows.RunPlace.{RunPlace}
use Rattle.run_scripts.specs.declared.rows.RunRow.{RunRow}
use Rattle.run_scripts.specs.declared.rows.Turn.{Turn}

-- ---- how far a run is with its calls

abbrev pub past_one : RunPlace → RunPlace
past_one p = record p { place = p.place + 1 }

-- the place that these entries come to, the oldest first, laid beside the calls in order
abbrev pub laid_at : List Call → List Entry → RunPlace
laid_at [] es = first_place
laid_at (c ∷ cs) es =
    if nat_lt (length es) (entries_of_call c es) then record { place = 0; within = length es }
    else past_one (laid_at cs (drop (entries_of_call c es) es))

-- of the handler that is at work; none of its calls has begun if no handler is
abbrev pub work_with : LineDef → List Entry → Option DevNo → RunPlace
work_with def past None = first_place
work_with def past (Some d) =
    laid_at (run_script def d parts.Primary) (entries_of_run parts.Primary d past)

abbrev pub work_of : LineDef → List Entry → RunPlace
work_of def past = work_with def past (at_work past)

-- of d's thread: the calls since its handler began, or returned
abbrev pub begins_or_returns : DevNo → Entry → Bool
begins_or_returns d e = is_thread_begin d e || is_thread_return d e

abbrev pub thread_calls : DevNo → List Entry → List Entry
thread_calls d past = reverse (filter (is_thread_call d) (since (begins_or_returns d) past))

abbrev pub thread_place : LineDef → List Entry → DevNo → RunPlace
thread_place def past d = laid_at (run_script def d parts.Thread) (thread_calls d past)

-- ---- which answers a part has

abbrev pub answer_count : LineDef → Part → DevNo → ℕ
answer_count def part d = length (told_answers def d part)

abbrev pub turn_of : LineDef → Part → List Entry → DevNo → Turn
turn_of def part past d = record {
  now = min (runs_before part d past) (answer_count def part d);
  next = min (count_of (begins_run part d) past) (answer_count def part d);
}

-- ---- all of it

abbrev pub run_row : LineDef → List Entry → DevNo → RunRow
run_row def past d = record {
  calls = thread_place def past d;
  handler = turn_of def parts.Primary past d;
  thread = turn_of def parts.Thread past d;
}

abbrev pub places_of : LineDef → List Entry → PlacesSeen
places_of def past =
    record { work = work_of def past; rows = table_by (run_row def past) def.devices }

-- ---- what an entry makes of it

-- the call of the run at its place
abbrev pub call_at : LineDef → PlacesSeen → Part → DevNo → Option Call
call_at def p part d = slice_get (run_script def d part) (place_at p d part).place

-- the entry is the last one of that call
abbrev pub completes_some : Option Call → Entry → Bool
completes_some None e = false
completes_some (Some c) e = completes c e

-- one more entry of that part of d
abbrev pub called_in : LineDef → Part → DevNo → Entry → PlacesSeen → PlacesSeen
called_in def part d e p = after_call (completes_some (call_at def p part d) e) d part p

abbrev pub called_at_work : LineDef → Option DevNo → Entry → PlacesSeen → PlacesSeen
called_at_work def None e p = p
called_at_work def (Some d) e p = called_in def parts.Primary d e p

-- `working`: the device whose handler is at work before the entry
abbrev pub places_after : LineDef → Option DevNo → Entry → PlacesSeen → PlacesSeen
places_after def working (by.Cpu cpu (cpus.Begin dev)) p =
    after_begin (answer_count def parts.Primary dev) dev parts.Primary p
places_after def working (by.Cpu cpu (cpus.Return answer dev served)) p =
    after_return dev parts.Primary p
places_after def working (by.Thread dev threads.Begin) p =
    after_begin (answer_count def parts.Thread dev) dev parts.Thread p
places_after def working (by.Thread dev (threads.Return handled served)) p =
    after_return dev parts.Thread p
places_after def working (by.CpuCall cpu call) p =
    called_at_work def working (by.CpuCall cpu call) p
places_after def working (by.ThreadCall dev call) p =
    called_in def parts.Thread dev (by.ThreadCall dev call) p
places_after def working _ p = p
