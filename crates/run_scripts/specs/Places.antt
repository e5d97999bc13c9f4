-- How far the runs of a line's devices are, and what each call makes of it.
use Rattle.std.specs.Prelude.{ℕ, ◌+◌, min, Bool, if◌then◌else◌, unwrap_or, List}
use Rattle.irq_base.specs.declared.devices.Part.{Part}
use Rattle.irq_base.specs.declared.devices.Part.TheVariants as parts
use Rattle.irq_base.specs.declared.numbers.DevNo.{DevNo}
use Rattle.device_table.specs.Rows.{at, change}
use Rattle.run_scripts.specs.declared.rows.RunPlace.{RunPlace}
use Rattle.run_scripts.specs.declared.rows.RunRow.{RunRow}
use Rattle.run_scripts.specs.declared.rows.Turn.{Turn}

-- no call has begun
abbrev pub first_place : RunPlace
first_place = record { place = 0; within = 0 }

-- no run has begun
abbrev pub first_turn : Turn
first_turn = record { now = 0; next = 0 }

abbrev pub first_row : RunRow
first_row = record { calls = first_place; handler = first_turn; thread = first_turn }

-- one more entry of the due call; `completes`: it is the last one
abbrev pub advanced : Bool → RunPlace → RunPlace
advanced completes p = record {
  place = if completes then p.place + 1 else p.place;
  within = if completes then 0 else p.within + 1;
}

-- one more run of a part that has that many answers
abbrev pub turned : ℕ → Turn → Turn
turned count t = record { now = t.next; next = min (t.next + 1) count }

-- how far the handler is that is at work, and a row for each device
pub record PlacesSeen : Type 0 where
  pub work : RunPlace
  pub rows : List (DevNo × RunRow)

abbrev pub row_at : List (DevNo × RunRow) → DevNo → RunRow
row_at t d = unwrap_or (at t d) first_row

-- how far the run of that part of d is with its calls, if it is there
abbrev pub place_at : PlacesSeen → DevNo → Part → RunPlace
place_at p d parts.Primary = p.work
place_at p d parts.Thread = (row_at p.rows d).calls

-- which answers that part of d has
abbrev pub turn_at : PlacesSeen → DevNo → Part → Turn
turn_at p d parts.Primary = (row_at p.rows d).handler
turn_at p d parts.Thread = (row_at p.rows d).thread

-- a run begins: its calls begin anew, and its part's next answer is its own
abbrev pub handler_begun : ℕ → RunRow → RunRow
handler_begun count r = record r { handler = turned count r.handler }

abbrev pub thread_begun : ℕ → RunRow → RunRow
thread_begun count r = record r { calls = first_place; thread = turned count r.thread }

abbrev pub after_begin : ℕ → DevNo → Part → PlacesSeen → PlacesSeen
after_begin count d parts.Primary p =
    record { work = first_place; rows = change (handler_begun count) p.rows d }
after_begin count d parts.Thread p = record p { rows = change (thread_begun count) p.rows d }

-- the thread's run goes to that place
abbrev pub placed : RunPlace → RunRow → RunRow
placed place r = record r { calls = place }

-- a run returns: no call of a run is under way
abbrev pub after_return : DevNo → Part → PlacesSeen → PlacesSeen
after_return d parts.Primary p = record p { work = first_place }
after_return d parts.Thread p = record p { rows = change (placed first_place) p.rows d }

-- one more entry of the due call
abbrev pub row_advanced : Bool → RunRow → RunRow
row_advanced completes r = record r { calls = advanced completes r.calls }

abbrev pub after_call : Bool → DevNo → Part → PlacesSeen → PlacesSeen
after_call completes d parts.Primary p = record p { work = advanced completes p.work }
after_call completes d parts.Thread p =
    record p { rows = change (row_advanced completes) p.rows d }
