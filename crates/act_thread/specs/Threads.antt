-- The threads of a line: what is read off all rows, and what an entry makes of them.
use Rattle.std.specs.Prelude.{ℕ, ◌≤◌, Bool, true, false, not, ◌&&◌, if◌then◌else◌, nat_lt, Option}
use Rattle.std.specs.Prelude.{Some, None, List, length}
use Rattle.std.specs.List.{sum_by}
use Rattle.irq_base.specs.declared.devices.Answer.TheVariants as answers
use Rattle.irq_base.specs.declared.entries.Entry.{Entry}
use Rattle.irq_base.specs.declared.entries.Entry.TheVariants as by
use Rattle.irq_base.specs.declared.entries.CpuEntry.TheVariants as cpus
use Rattle.irq_base.specs.declared.entries.ThreadEntry.TheVariants as threads
use Rattle.irq_base.specs.declared.entries.CallEntry.{CallEntry}
use Rattle.irq_base.specs.declared.entries.CallEntry.TheVariants as called
use Rattle.irq_base.specs.declared.numbers.DevNo.{DevNo}
use Rattle.device_table.specs.Rows.{at, has, change, HasOwnKeys}
use Rattle.device_table.specs.Sums.{one_if, weigh_all, how_many}
use Rattle.act_thread.specs.Steps.{is_idle_row, finished_by, active_row, woken_row, begun_row}
use Rattle.act_thread.specs.Steps.{returned_row, finished_row, done_row}
use Rattle.act_thread.specs.declared.rows.Finished.{Finished}
use Rattle.act_thread.specs.declared.rows.Finished.TheVariants as finishes
use Rattle.act_thread.specs.declared.rows.ThreadRow.{ThreadRow}

-- how many threads are to run, and how many are in a run
abbrev pub active_in : List (DevNo × ThreadRow) → ℕ
active_in t = weigh_all active_row t

-- how many bits stand
abbrev pub held_in : List (DevNo × ThreadRow) → ℕ
held_in t = how_many (λ r. r.held) t

-- the test of a device's row; `absent` is the answer for a device without a row
abbrev pub row_passes : (ThreadRow → Bool) → Bool → Option ThreadRow → Bool
row_passes p absent None = absent
row_passes p absent (Some r) = p r

abbrev pub is_idle_at : List (DevNo × ThreadRow) → DevNo → Bool
is_idle_at t d = row_passes is_idle_row true (at t d)

-- a line has at most 256 devices, and each has one row
pub record AreRows (t : List (DevNo × ThreadRow)) : Type 0 where
  pub few : length t ≤ 256
  pub own : HasOwnKeys t

-- how many of the line's devices have lower numbers than d, which is one of them
abbrev pub rank_at : List (DevNo × ThreadRow) → DevNo → Option ℕ
rank_at t d = if has t d then Some (sum_by (λ e. one_if (nat_lt e.0.0 d.0)) t) else None

abbrev pub finish_of : Option ThreadRow → Finished
finish_of None = finishes.NotDue
finish_of (Some r) = finished_by r

abbrev pub finishes_at : List (DevNo × ThreadRow) → DevNo → Finished
finishes_at t d = finish_of (at t d)

-- a call wakes the thread, if it may and the thread isn't woken; none for a device without a row
abbrev pub wakes_at : Bool → List (DevNo × ThreadRow) → DevNo → Bool
wakes_at may t d = may && row_passes (λ r. not r.woken) false (at t d)

-- what a call that wakes, or doesn't, makes of the threads
abbrev pub called_at : Bool → Bool → List (DevNo × ThreadRow) → DevNo → List (DevNo × ThreadRow)
called_at woken oneshot t d = if woken then change (woken_row oneshot) t d else t

abbrev pub threads_by_call : Bool → CallEntry → List (DevNo × ThreadRow) → List (DevNo × ThreadRow)
threads_by_call oneshot (called.Wake woken dev) t = called_at woken oneshot t dev
threads_by_call oneshot _ t = t

-- what an entry makes of the threads of a line, one-shot or not
abbrev pub threads_after : Bool → Entry → List (DevNo × ThreadRow) → List (DevNo × ThreadRow)
threads_after oneshot (by.Cpu cpu (cpus.Return answers.Wake dev served)) t =
    change (woken_row oneshot) t dev
threads_after oneshot (by.Thread dev threads.Begin) t = change begun_row t dev
threads_after oneshot (by.Thread dev (threads.Return handled served)) t = change returned_row t dev
threads_after oneshot (by.Thread dev (threads.Finish kept unmask)) t = change finished_row t dev
threads_after oneshot (by.Thread dev threads.Done) t = change (done_row oneshot) t dev
threads_after oneshot (by.CpuCall cpu call) t = threads_by_call oneshot call t
threads_after oneshot (by.ThreadCall dev call) t = threads_by_call oneshot call t
threads_after oneshot (by.DriverCall driver call) t = threads_by_call oneshot call t
threads_after _ _ t = t
