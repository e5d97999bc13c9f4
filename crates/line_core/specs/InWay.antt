-- What stands in the way of an actor, read off the state.
use Rattle.std.specs.Prelude.{Bool, not, ◌||◌, if◌then◌else◌, is_some, option_map, Option, Some}
use Rattle.std.specs.Prelude.{None, List}
use Rattle.irq_base.specs.Cell.{signals}
use Rattle.irq_base.specs.declared.devices.DeviceDef.{DeviceDef}
use Rattle.irq_base.specs.declared.entries.Actor.{Actor}
use Rattle.irq_base.specs.declared.lines.LineDef.{LineDef}
use Rattle.irq_base.specs.declared.numbers.CpuNo.{CpuNo}
use Rattle.irq_base.specs.declared.numbers.DevNo.{DevNo}
use Rattle.irq_base.specs.declared.waiting.WaitFor.{WaitFor}
use Rattle.irq_base.specs.declared.waiting.WaitFor.TheVariants as waits
use Rattle.irq_model.specs.Rounds.{is_cpu}
use Rattle.irq_model.specs.Signal.{lowest_in}
use Rattle.device_table.specs.Rows.{at}
use Rattle.act_thread.specs.Steps.{is_in_run}
use Rattle.act_thread.specs.Threads.{is_idle_at}
use Rattle.act_thread.specs.declared.rows.ThreadRow.{ThreadRow}
use Rattle.line_obstacles.specs.Obstacles.{lowest_that}
use Rattle.line_obstacles.specs.declared.obstacle.Obstacle.{Obstacle}
use Rattle.line_obstacles.specs.declared.obstacle.Obstacle.TheVariants as obstacles
use Rattle.line_marks.specs.Due.{due_at_stage}
use Rattle.line_marks.specs.State.{StateSeen}
use Rattle.line_state.specs.Waits.{wait_of_handler, wait_of_thread}

abbrev pub busy_in : StateSeen → DevNo → Bool
busy_in s d = not (is_idle_at s.threads d)

abbrev pub flow_by : StateSeen → Option Obstacle
flow_by s = option_map obstacles.Flow s.desc.flow

abbrev pub by_freed : StateSeen → Option (Actor × DevNo) → Option Obstacle
by_freed s None = None
by_freed s (Some (maker, d)) = if busy_in s d then Some (obstacles.Thread d) else None

abbrev pub by_wait : StateSeen → List DeviceDef → WaitFor → Option Obstacle
by_wait s devices waits.Nothing = None
by_wait s devices waits.Flow = flow_by s
by_wait s devices waits.Threads = option_map obstacles.Thread (lowest_that (busy_in s) devices)
by_wait s devices waits.Mutex = option_map (λ free. obstacles.Mutex free.0) s.freeing
by_wait s devices waits.Freed = by_freed s s.freeing

-- a thread in a run whose next entry isn't due
abbrev pub by_row : LineDef → StateSeen → List DeviceDef → DevNo → Option ThreadRow
    → Option Obstacle
by_row def s devices d None = None
by_row def s devices d (Some r) = if is_in_run r.stage
    then (if is_some (due_at_stage def r.stage s d r) then None
    else by_wait s devices (wait_of_thread def s d)) else None

abbrev pub by_thread : LineDef → StateSeen → List DeviceDef → DevNo → Option Obstacle
by_thread def s devices d = by_row def s devices d (at s.threads d)

abbrev pub unless_target : CpuNo → Option CpuNo → Option Obstacle
unless_target c target = if is_cpu c target then None else option_map obstacles.Target target

abbrev pub by_take : StateSeen → CpuNo → Option Obstacle
by_take s c =
    if signals s.cell || s.desc.soft then unless_target c (lowest_in s.aim.cpus s.aim.mask)
    else (if s.desc.masked then Some obstacles.Masked else Some obstacles.NoSignal)

-- a processor in its flow is kept by what its handler's call waits for
abbrev pub by_cpu : LineDef → StateSeen → List DeviceDef → CpuNo → Option Obstacle
by_cpu def s devices c =
    if is_cpu c s.desc.flow then by_wait s devices (wait_of_handler def s s.round.working)
    else by_take s c
