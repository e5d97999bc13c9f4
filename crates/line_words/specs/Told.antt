-- The numbers of a state as they are looked up, device by device.
use Rattle.std.specs.Prelude.{ℕ, Bool, if◌then◌else◌, List, [], ◌∷◌, unwrap_or}
use Rattle.irq_base.specs.declared.devices.DeviceDef.{DeviceDef}
use Rattle.irq_base.specs.declared.lines.LineDef.{LineDef}
use Rattle.irq_base.specs.declared.numbers.DevNo.{DevNo}
use Rattle.irq_base.specs.declared.numbers.DriverNo.{DriverNo}
use Rattle.device_table.specs.Rows.{at}
use Rattle.act_list.specs.Lists.{begun_at, flags_of}
use Rattle.act_thread.specs.Steps.{idle_row}
use Rattle.ask_counts.specs.Rows.{no_asks}
use Rattle.run_scripts.specs.Places.{row_at}
use Rattle.line_scripts.specs.Rows.{RowSeen, place_of}
use Rattle.line_marks.specs.Next.{due_call_in}
use Rattle.line_marks.specs.State.{StateSeen}
use Rattle.line_futures.specs.Places.{count_in}
use Rattle.line_words.specs.Words.{begun_words, thread_words, ask_words, quiet_words, place_words}
use Rattle.line_words.specs.Words.{run_words, desc_words, round_words, freeing_words, linked_words}

-- the numbers of each device
abbrev pub rows_words : (DevNo → List ℕ → List ℕ) → List DeviceDef → List ℕ → List ℕ
rows_words words [] rest = rest
rows_words words (x ∷ xs) rest = words x.dev (rows_words words xs rest)

abbrev pub begun_told : StateSeen → DevNo → List ℕ → List ℕ
begun_told s d rest = begun_words (begun_at s.list.begun d) rest

abbrev pub thread_told : StateSeen → DevNo → List ℕ → List ℕ
thread_told s d rest = thread_words (unwrap_or (at s.threads d) idle_row) rest

abbrev pub ask_told : StateSeen → DevNo → List ℕ → List ℕ
ask_told s d rest = ask_words (unwrap_or (at s.asks d) no_asks) rest

abbrev pub quiet_told : StateSeen → DevNo → List ℕ → List ℕ
quiet_told s d rest = quiet_words (unwrap_or (at s.asks d) no_asks) rest

abbrev pub run_told : StateSeen → DevNo → List ℕ → List ℕ
run_told s d rest = run_words (row_at s.places.rows d) rest

-- what only some lines need
abbrev pub more_told : Bool → LineDef → StateSeen → List ℕ → List ℕ
more_told more def s rest =
    if more
    then place_words s.places.work
    (rows_words (quiet_told s) def.devices (rows_words (run_told s) def.devices rest))
    else rest

-- how many calls of each driver are complete, and how many entries its next one has made
abbrev pub places_told : List (DriverNo × RowSeen) → List DriverNo → List ℕ → List ℕ
places_told scripts [] rest = rest
places_told scripts (r ∷ rs) rest =
    place_of scripts r ∷ count_in (due_call_in scripts r) ∷ places_told scripts rs rest

-- all numbers of the state
abbrev pub state_told : Bool → LineDef → StateSeen → (List ℕ → List ℕ) → List ℕ
state_told more def s places =
    desc_words s (round_words s (freeing_words s.freeing
    (rows_words (begun_told s) def.devices (rows_words (thread_told s) def.devices
    (rows_words (ask_told s) def.devices
    (more_told more def s (places (linked_words (flags_of s.list.actions)))))))))
