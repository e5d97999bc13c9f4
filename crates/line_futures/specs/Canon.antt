-- What a line's future depends on, of all that the line keeps: its canonical state.
use Rattle.std.specs.Prelude.{ℕ, ◌==◌, Bool, false, not, ◌&&◌, if◌then◌else◌, is_some}
use Rattle.std.specs.Prelude.{Option, Some, None, List, [], ◌∷◌}
use Rattle.irq_base.specs.declared.calls.Flags.{Flags}
use Rattle.irq_base.specs.declared.devices.Part.{Part}
use Rattle.irq_base.specs.declared.devices.Part.TheVariants as parts
use Rattle.irq_base.specs.declared.numbers.DevNo.{DevNo}
use Rattle.irq_model.specs.Kinds.{same_dev}
use Rattle.irq_model.specs.Spurious.{Counts}
use Rattle.device_table.specs.Rows.{at}
use Rattle.device_table.specs.Sums.{one_if}
use Rattle.act_list.specs.Lists.{ListSeen, flags_of, cleared}
use Rattle.act_list.specs.declared.actions.Action.{Action}
use Rattle.act_thread.specs.Steps.{may_return}
use Rattle.act_thread.specs.Threads.{row_passes}
use Rattle.act_thread.specs.declared.rows.ThreadRow.{ThreadRow}
use Rattle.ask_counts.specs.Facts.{facts_at}
use Rattle.ask_counts.specs.declared.rows.AskRow.{AskRow}
use Rattle.run_scripts.specs.Places.{PlacesSeen}
use Rattle.run_scripts.specs.declared.rows.RunRow.{RunRow}
use Rattle.run_scripts.specs.declared.rows.Turn.{Turn}
use Rattle.line_marks.specs.Rounds.{RoundSeen}
use Rattle.line_marks.specs.State.{StateSeen}

-- a flow is in progress
abbrev pub in_flow : StateSeen → Bool
in_flow s = is_some s.desc.flow

-- the actions without their thread bits, which decide nothing
abbrev pub without_bits : List (DevNo × Flags) → List (DevNo × Action)
without_bits [] = []
without_bits (e ∷ es) = (e.0, record { flags = e.1; bit = 0 }) ∷ without_bits es

-- whose handlers were called matters in a flow alone; the number of rounds never does
abbrev pub canon_list : Bool → ListSeen → ListSeen
canon_list flow l = record {
  actions = without_bits (flags_of l.actions);
  begun = if flow then l.begun else cleared l.begun;
  rounds = 0;
}

-- the device's handler is at work
abbrev pub is_working : Option DevNo → DevNo → Bool
is_working None d = false
is_working (Some w) d = same_dev d w

-- the handler of the device's thread is at work
abbrev pub is_thread_working : List (DevNo × ThreadRow) → DevNo → Bool
is_thread_working t d = row_passes may_return false (at t d)

-- the run of the part that serves is at work; never, if no part serves
abbrev pub is_serving : Option Part → Bool → Bool → Bool
is_serving None handler thread = false
is_serving (Some parts.Primary) handler thread = handler
is_serving (Some parts.Thread) handler thread = thread

abbrev pub kept_if : Bool → ℕ → ℕ
kept_if b n = if b then n else 0

-- what a run met matters while the run is at work, and so do the asks since a serving run began
abbrev pub canon_row : Bool → Bool → Bool → AskRow → AskRow
canon_row serving handler thread r = record {
  unserved = r.unserved;
  fresh = kept_if serving r.fresh;
  met_by_handler = kept_if handler r.met_by_handler;
  met_by_thread = kept_if thread r.met_by_thread;
  quiet = r.quiet;
}

-- each row by itself
abbrev pub each_row : {R : Type 0} → (DevNo → R → R) → List (DevNo × R) → List (DevNo × R)
each_row f [] = []
each_row f (e ∷ es) = (e.0, f e.0 e.1) ∷ each_row f es

abbrev pub canon_asks : (DevNo → Bool) → (DevNo → Bool) → (DevNo → Bool) → List (DevNo × AskRow)
    → List (DevNo × AskRow)
canon_asks serving handler thread t =
    each_row (λ d. canon_row (serving d) (handler d) (thread d)) t

abbrev pub serves_at : StateSeen → DevNo → Bool
serves_at s d = is_serving (facts_at s.facts d).serving (is_working s.round.working d)
    (is_thread_working s.threads d)

-- which answer a run has matters while the run is at work
abbrev pub canon_turn : Bool → Turn → Turn
canon_turn works t = record t { now = kept_if works t.now }

-- how far a thread's run is with its calls matters while it is there; when it has returned, none
-- of its calls has begun
abbrev pub canon_run : Bool → Bool → RunRow → RunRow
canon_run handler thread r =
    record r { handler = canon_turn handler r.handler; thread = canon_turn thread r.thread }

abbrev pub canon_runs : (DevNo → Bool) → (DevNo → Bool) → List (DevNo × RunRow)
    → List (DevNo × RunRow)
canon_runs handler thread t = each_row (λ d. canon_run (handler d) (thread d)) t

abbrev pub canon_places : (DevNo → Bool) → (DevNo → Bool) → PlacesSeen → PlacesSeen
canon_places handler thread p = record p { rows = canon_runs handler thread p.rows }

-- what the handlers of a round answered matters until the flow's end
abbrev pub canon_round : Bool → RoundSeen → RoundSeen
canon_round flow r = record r { wakes = flow && r.wakes; handles = flow && r.handles }

-- of the runs of threads that served it matters whether there was one since the last judgement
abbrev pub canon_counts : Counts → Counts
canon_counts c = record c { threads_handled = one_if (not (c.threads_handled == c.last)); last = 0 }

-- Whether the chips are active, and the processor that they are aimed at, decide nothing: they
-- follow from the rest.
abbrev pub canon : StateSeen → StateSeen
canon s = record {
  desc = s.desc;
  cell = s.cell;
  active = false;
  aimed = 0;
  aim = s.aim;
  list = canon_list (in_flow s) s.list;
  threads = s.threads;
  asks = canon_asks (serves_at s) (is_working s.round.working) (is_thread_working s.threads) s.asks;
  facts = s.facts;
  places = canon_places (is_working s.round.working) (is_thread_working s.threads) s.places;
  round = canon_round (in_flow s) s.round;
  counts = record s.counts { counts = canon_counts s.counts.counts };
  freeing = s.freeing;
}
