-- A state as it is read off numbers.
use Rattle.std.specs.Prelude.{ℕ, ◌+◌, ◌*◌, ◌==◌, Bool, true, false, if◌then◌else◌, Option, Some}
use Rattle.std.specs.Prelude.{None, ◌&&◌, List, [], ◌∷◌, ◌++◌, drop, length, slice_get, unwrap_or}
use Rattle.irq_base.specs.Cell.{Cell}
use Rattle.irq_base.specs.declared.calls.Flags.{Flags}
use Rattle.irq_base.specs.declared.devices.DeviceDef.{DeviceDef}
use Rattle.irq_base.specs.declared.entries.Actor.{Actor}
use Rattle.irq_base.specs.declared.entries.Actor.TheVariants as actors
use Rattle.irq_base.specs.declared.lines.LineDef.{LineDef}
use Rattle.irq_base.specs.declared.numbers.CpuNo.{CpuNo}
use Rattle.irq_base.specs.declared.numbers.DevNo.{DevNo}
use Rattle.irq_base.specs.declared.numbers.DriverNo.{DriverNo}
use Rattle.irq_model.specs.Lines.{serves}
use Rattle.irq_model.specs.Spurious.{Counts}
use Rattle.irq_laws.specs.Driven.{cell_with}
use Rattle.device_table.specs.Rows.{change}
use Rattle.act_list.specs.Lists.{action_by}
use Rattle.act_list.specs.declared.actions.Action.{Action}
use Rattle.act_thread.specs.declared.rows.Stage.{Stage}
use Rattle.act_thread.specs.declared.rows.Stage.TheVariants as stages
use Rattle.act_thread.specs.declared.rows.ThreadRow.{ThreadRow}
use Rattle.affinity.specs.Seen.{AimSeen}
use Rattle.ask_counts.specs.Rows.{turned_off}
use Rattle.ask_counts.specs.declared.rows.AskRow.{AskRow}
use Rattle.desc_state.specs.Desc.{DescSeen}
use Rattle.run_scripts.specs.declared.rows.RunPlace.{RunPlace}
use Rattle.run_scripts.specs.declared.rows.RunRow.{RunRow}
use Rattle.line_scripts.specs.Rows.{RowSeen, gone_to}
use Rattle.line_marks.specs.Rounds.{RoundSeen}
use Rattle.line_marks.specs.State.{StateSeen}
use Rattle.line_words.specs.Words.{has_more}

-- the number at the place, 0 behind the last
abbrev pub word_at : List ℕ → ℕ → ℕ
word_at ws i = unwrap_or (slice_get ws i) 0

abbrev pub bit_at : List ℕ → ℕ → Bool
bit_at ws i = word_at ws i == 1

abbrev pub cpu_at : List ℕ → ℕ → Option CpuNo
cpu_at ws i = if bit_at ws i then Some (record { 0 = word_at ws (i + 1) }) else None

abbrev pub dev_at : List ℕ → ℕ → Option DevNo
dev_at ws i = if bit_at ws i then Some (record { 0 = word_at ws (i + 1) }) else None

abbrev pub mask_at : List ℕ → ℕ → Option ℕ
mask_at ws i = if bit_at ws i then Some (word_at ws (i + 1)) else None

-- ---- the parts that have a fixed place

abbrev pub desc_in : LineDef → List ℕ → DescSeen
desc_in def ws = record {
  unlazy = def.unlazy;
  depth = word_at ws 0;
  started = bit_at ws 1;
  masked = bit_at ws 2;
  pending = bit_at ws 3;
  oneshot = bit_at ws 4;
  spurious = bit_at ws 5;
  soft = bit_at ws 6;
  flow = cpu_at ws 7;
}

-- the mask is the descriptor's, and an interrupt is in service while a flow is in progress
abbrev pub cell_in : LineDef → List ℕ → Cell
cell_in def ws =
    cell_with def (bit_at ws 2) (bit_at ws 9) (bit_at ws 10) (bit_at ws 11)
    (serves def && bit_at ws 7)

abbrev pub aim_in : LineDef → List ℕ → AimSeen
aim_in def ws = record {
  cpus = def.cpus;
  later = def.later;
  mask = word_at ws 12;
  waiting = mask_at ws 13;
}

abbrev pub round_in : List ℕ → RoundSeen
round_in ws = record {
  working = dev_at ws 15;
  wakes = bit_at ws 17;
  handles = bit_at ws 18;
  moment = word_at ws 19;
}

abbrev pub counts_in : List ℕ → Counts
counts_in ws = record {
  irq_count = word_at ws 20;
  irqs_unhandled = word_at ws 21;
  threads_handled = word_at ws 22;
  deferred = bit_at ws 23;
  last = 0;
  last_unhandled = word_at ws 24;
}

-- who makes the free
abbrev pub actor_in : ℕ → ℕ → Actor
actor_in who n =
    if who == 1 then actors.Driver (record { 0 = n })
    else (if who == 2 then actors.Cpu (record { 0 = n }) else actors.Thread (record { 0 = n }))

abbrev pub freeing_in : List ℕ → Option (Actor × DevNo)
freeing_in ws =
    if word_at ws 25 == 0 then None
    else Some (actor_in (word_at ws 25) (word_at ws 26), record { 0 = word_at ws 27 })

-- how many numbers have a fixed place
abbrev pub fixed : ℕ
fixed = 28

-- the state with these parts in place of its own; the chip isn't aimed, and it is active, as a step
-- that opens it needs it
abbrev pub with_fixed : LineDef → List ℕ → StateSeen → StateSeen
with_fixed def ws s = record s {
  desc = desc_in def ws;
  cell = cell_in def ws;
  active = true;
  aimed = 0;
  aim = aim_in def ws;
  round = round_in ws;
  counts = record { window = def.window; limit = def.limit; counts = counts_in ws };
  freeing = freeing_in ws;
}

-- ---- the tables

abbrev pub stage_in : ℕ → Stage
stage_in n =
    if n == 1 then stages.Begun else (if n == 2 then stages.Returned
    else (if n == 3 then stages.Finished else stages.Idle))

abbrev pub thread_in : List ℕ → ThreadRow
thread_in ws =
    record { woken = bit_at ws 0; stage = stage_in (word_at ws 1); held = bit_at ws 2 }

abbrev pub ask_in : List ℕ → AskRow
ask_in ws = record {
  unserved = word_at ws 0;
  fresh = word_at ws 1;
  met_by_handler = word_at ws 2;
  met_by_thread = word_at ws 3;
  quiet = false;
}

abbrev pub place_in : List ℕ → RunPlace
place_in ws = record { place = word_at ws 0; within = word_at ws 1 }

abbrev pub run_in : List ℕ → RunRow
run_in ws = record {
  calls = place_in ws;
  handler = record { now = word_at ws 2; next = word_at ws 3 };
  thread = record { now = word_at ws 4; next = word_at ws 5 };
}

-- the row of each device is put; a row has `width` numbers
abbrev pub put_rows : {R : Type 0} → (List ℕ → R) → ℕ → List DeviceDef → List ℕ → List (DevNo × R)
    → List (DevNo × R)
put_rows row width [] ws t = t
put_rows row width (x ∷ xs) ws t =
    put_rows row width xs (drop width ws) (change (λ _. row ws) t x.dev)

-- the rows of the devices with a 1 are changed, as whose handlers were called, and which are quiet
abbrev pub mark_if : {R : Type 0} → (R → R) → Bool → List (DevNo × R) → DevNo → List (DevNo × R)
mark_if mark b t d = if b then change mark t d else t

abbrev pub mark_rows : {R : Type 0} → (R → R) → List DeviceDef → List ℕ → List (DevNo × R)
    → List (DevNo × R)
mark_rows mark [] ws t = t
mark_rows mark (x ∷ xs) ws t =
    mark_rows mark xs (drop 1 ws) (mark_if mark (bit_at ws 0) t x.dev)

-- ---- the linked devices

abbrev pub flags_in : ℕ → ℕ → ℕ → Flags
flags_in s o n = record { shared = s == 1; oneshot = o == 1; noauto = n == 1 }

abbrev pub linked_in : List ℕ → List (DevNo × Flags)
linked_in (d ∷ s ∷ o ∷ n ∷ ws) = (record { 0 = d }, flags_in s o n) ∷ linked_in ws
linked_in _ = []

-- they are linked one after another
abbrev pub link_all : List (DevNo × Flags) → List (DevNo × Action) → List (DevNo × Action)
link_all [] t = t
link_all (e ∷ es) t = link_all es (t ++ (e.0, action_by e.1 t) ∷ [])

-- ---- the whole

-- each driver goes to its place
abbrev pub go_all : List DriverNo → List ℕ → List (DriverNo × RowSeen) → List (DriverNo × RowSeen)
go_all [] ws s = s
go_all (r ∷ rs) ws s = go_all rs (drop 2 ws) (gone_to r (word_at ws 0) (word_at ws 1) s)

abbrev pub marks_from : List ℕ → List ℕ
marks_from ws = drop fixed ws

abbrev pub threads_from : LineDef → List ℕ → List ℕ
threads_from def ws = drop (length def.devices) (marks_from ws)

abbrev pub asks_from : LineDef → List ℕ → List ℕ
asks_from def ws = drop (3 * length def.devices) (threads_from def ws)

abbrev pub more_from : LineDef → List ℕ → List ℕ
more_from def ws = drop (4 * length def.devices) (asks_from def ws)

-- what only some lines need, from its first number on: the numbers of the devices' runs behind it,
-- and what is behind all of it
abbrev pub runs_in : LineDef → List ℕ → List ℕ
runs_in def ws = drop (length def.devices) (drop 2 ws)

abbrev pub behind_more : Bool → LineDef → List ℕ → List ℕ
behind_more more def ws = if more then drop (6 * length def.devices) (runs_in def ws) else ws

abbrev pub places_from : LineDef → List ℕ → List ℕ
places_from def ws = behind_more (has_more def) def (more_from def ws)

abbrev pub linked_from : LineDef → List DriverNo → List ℕ → List ℕ
linked_from def rs ws = drop (2 * length rs) (places_from def ws)

-- the tables of the state with these rows in place of their own
abbrev pub with_rows : LineDef → List ℕ → StateSeen → StateSeen
with_rows def ws s = record s {
  list = record s.list { begun = mark_rows (λ _. true) def.devices (marks_from ws) s.list.begun };
  threads = put_rows thread_in 3 def.devices (threads_from def ws) s.threads;
  asks = put_rows ask_in 4 def.devices (asks_from def ws) s.asks;
}

-- and with what only some lines need, which is read off these numbers
abbrev pub with_runs : LineDef → List ℕ → StateSeen → StateSeen
with_runs def ws s = record s {
  asks = mark_rows turned_off def.devices (drop 2 ws) s.asks;
  places = record {
    work = place_in ws;
    rows = put_rows run_in 6 def.devices (runs_in def ws) s.places.rows;
  };
}

abbrev pub with_more : Bool → LineDef → List ℕ → StateSeen → StateSeen
with_more more def ws s = if more then with_runs def ws s else s

-- all tables
abbrev pub with_tables : LineDef → List ℕ → StateSeen → StateSeen
with_tables def ws s = with_more (has_more def) def (more_from def ws) (with_rows def ws s)

abbrev pub with_linked : List ℕ → StateSeen → StateSeen
with_linked ws s = record s {
  list = record s.list { actions = link_all (linked_in ws) s.list.actions };
}
