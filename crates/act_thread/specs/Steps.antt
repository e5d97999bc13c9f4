-- When each step of a thread may come, and what it makes of the thread's row.
use Rattle.std.specs.Prelude.{ℕ, ◌+◌, Bool, true, false, not, ◌||◌, ◌&&◌, if◌then◌else◌}
use Rattle.device_table.specs.Sums.{one_if}
use Rattle.act_thread.specs.declared.rows.Finished.{Finished}
use Rattle.act_thread.specs.declared.rows.Finished.TheVariants as finishes
use Rattle.act_thread.specs.declared.rows.Stage.{Stage}
use Rattle.act_thread.specs.declared.rows.Stage.TheVariants as stages
use Rattle.act_thread.specs.declared.rows.ThreadRow.{ThreadRow}

-- a thread at rest
abbrev pub idle_row : ThreadRow
idle_row = record { woken = false; stage = stages.Idle; held = false }

abbrev pub is_in_run : Stage → Bool
is_in_run stages.Idle = false
is_in_run _ = true

abbrev pub is_begun : Stage → Bool
is_begun stages.Begun = true
is_begun _ = false

abbrev pub is_returned_stage : Stage → Bool
is_returned_stage stages.Returned = true
is_returned_stage _ = false

-- the handler has returned, and the run isn't finalized
abbrev pub is_returned : ThreadRow → Bool
is_returned r = is_returned_stage r.stage

-- neither to run nor in a run
abbrev pub is_idle_row : ThreadRow → Bool
is_idle_row r = not r.woken && not (is_in_run r.stage)

-- a run begins once the last one is over
abbrev pub may_begin : ThreadRow → Bool
may_begin r = r.woken && not (is_in_run r.stage)

abbrev pub may_return : ThreadRow → Bool
may_return r = is_begun r.stage

-- the run ends: at once if the line isn't one-shot, else after it was finalized
abbrev pub ends_after : Bool → Stage → Bool
ends_after oneshot stages.Returned = not oneshot
ends_after oneshot stages.Finished = true
ends_after oneshot _ = false

abbrev pub may_end : Bool → ThreadRow → Bool
may_end oneshot r = ends_after oneshot r.stage

-- what a finish finds
abbrev pub finished_by : ThreadRow → Finished
finished_by r =
    if is_returned r then (if r.woken then finishes.Kept else finishes.Cleared) else finishes.NotDue

-- the thread could step, whatever the line is
abbrev pub steps_at : Bool → Stage → Bool
steps_at woken stages.Idle = woken
steps_at woken stages.Returned = false
steps_at woken _ = true

abbrev pub is_ready : ThreadRow → Bool
is_ready r = steps_at r.woken r.stage

-- the thread could step; a run whose handler has returned can if it may go on
abbrev pub could_step : Bool → ThreadRow → Bool
could_step goes_on r = is_ready r || (goes_on && is_returned r)

-- the thread is to run; nothing changes if it is already
abbrev pub woken_row : Bool → ThreadRow → ThreadRow
woken_row oneshot r = if r.woken then r else record r { woken = true; held = r.held || oneshot }

abbrev pub begun_row : ThreadRow → ThreadRow
begun_row r = if may_begin r then record r { woken = false; stage = stages.Begun } else r

abbrev pub returned_row : ThreadRow → ThreadRow
returned_row r = if may_return r then record r { stage = stages.Returned } else r

-- the bit is given up, unless the thread is to run again
abbrev pub finished_row : ThreadRow → ThreadRow
finished_row r =
    if is_returned r then record r { stage = stages.Finished; held = r.held && r.woken } else r

abbrev pub done_row : Bool → ThreadRow → ThreadRow
done_row oneshot r = if may_end oneshot r then record r { stage = stages.Idle } else r

-- a row's part of `threads_active`
abbrev pub active_row : ThreadRow → ℕ
active_row r = one_if r.woken + one_if (is_in_run r.stage)
