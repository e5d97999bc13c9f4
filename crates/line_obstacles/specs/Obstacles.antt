-- Why nothing is due of an actor, where somebody or something holds it back. It is asked where the
-- table of steps has no entry for the actor.
use Rattle.std.specs.Prelude.{ℕ, ◌||◌, ◌&&◌, if◌then◌else◌, is_some, nat_lt, option_map, reverse}
use Rattle.std.specs.Prelude.{Bool, Option, Some, None, List, [], ◌∷◌}
use Rattle.std.specs.List.{list_any}
use Rattle.irq_base.specs.declared.calls.Call.{Call}
use Rattle.irq_base.specs.declared.devices.DeviceDef.{DeviceDef}
use Rattle.irq_base.specs.declared.devices.Part.TheVariants as parts
use Rattle.irq_base.specs.declared.entries.Actor.{Actor}
use Rattle.irq_base.specs.declared.entries.Actor.TheVariants as actors
use Rattle.irq_base.specs.declared.entries.Entry.{Entry}
use Rattle.irq_base.specs.declared.lines.LineDef.{LineDef}
use Rattle.irq_base.specs.declared.numbers.CpuNo.{CpuNo}
use Rattle.irq_base.specs.declared.numbers.DevNo.{DevNo}
use Rattle.irq_base.specs.declared.waiting.WaitFor.{WaitFor}
use Rattle.irq_base.specs.declared.waiting.WaitFor.TheVariants as waits
use Rattle.irq_model.specs.Due.{due_call}
use Rattle.irq_model.specs.Kinds.{is_thread_begin, is_thread_return}
use Rattle.irq_model.specs.Lines.{has_device}
use Rattle.irq_model.specs.Masks.{is_masked}
use Rattle.irq_model.specs.Next.{next_of_thread}
use Rattle.irq_model.specs.Places.{since}
use Rattle.irq_model.specs.Rounds.{at_work, flow, is_cpu}
use Rattle.irq_model.specs.Runs.{due_in_run}
use Rattle.irq_model.specs.Signal.{signals, target}
use Rattle.irq_model.specs.Threads.{is_running, is_woken}
use Rattle.irq_model.specs.Waiting.{is_soft}
use Rattle.irq_laws.specs.Blocks.{block_of}
use Rattle.irq_laws.specs.Kept.{freeing}
use Rattle.irq_line.specs.Seen.{LineSeen}
use Rattle.line_obstacles.specs.declared.obstacle.Obstacle.{Obstacle}
use Rattle.line_obstacles.specs.declared.obstacle.Obstacle.TheVariants as obstacles

-- the thread is woken or in a run
abbrev pub is_at_work : List Entry → DevNo → Bool
is_at_work past d = is_woken past d || is_running past d

-- the device with the lower number
abbrev pub lower : DevNo → Option DevNo → DevNo
lower d None = d
lower d (Some other) = if nat_lt other.0 d.0 then other else d

-- the lowest by number of those devices that are so
abbrev pub lowest_that : (DevNo → Bool) → List DeviceDef → Option DevNo
lowest_that is [] = None
lowest_that is (x ∷ xs) =
    if is x.dev then Some (lower x.dev (lowest_that is xs)) else lowest_that is xs

-- the flow in progress
abbrev pub flow_in_way : LineDef → List Entry → Option Obstacle
flow_in_way def past = option_map obstacles.Flow (flow def past)

-- the thread of the device that is being freed
abbrev pub freed_in_way : List Entry → Option (Actor × DevNo) → Option Obstacle
freed_in_way past None = None
freed_in_way past (Some (maker, d)) =
    if is_at_work past d then Some (obstacles.Thread d) else None

-- who stands in the way of a call that waits for this: of a sync the lowest thread at work
abbrev pub waited_for : LineDef → List Entry → WaitFor → Option Obstacle
waited_for def past waits.Nothing = None
waited_for def past waits.Flow = flow_in_way def past
waited_for def past waits.Threads =
    option_map obstacles.Thread (lowest_that (is_at_work past) def.devices)
waited_for def past waits.Mutex = option_map (λ free. obstacles.Mutex free.0) (freeing past)
waited_for def past waits.Freed = freed_in_way past (freeing past)

-- a driver whose calls are complete has nothing to do
abbrev pub in_way_of_call : LineDef → List Entry → Option (Call × ℕ) → Option Obstacle
in_way_of_call def past None = None
in_way_of_call def past (Some (call, made)) = waited_for def past (block_of call made)

-- a run that is over can't be finished within a flow, and one that isn't may wait in a call
abbrev pub in_way_of_run : LineDef → List Entry → DevNo → Option Obstacle
in_way_of_run def past d =
    if list_any (is_thread_return d) (since (is_thread_begin d) past) then flow_in_way def past
    else in_way_of_call def past (due_in_run def parts.Thread d past)

abbrev pub in_way_of_thread : LineDef → List Entry → DevNo → Option Obstacle
in_way_of_thread def past d =
    if has_device def d && is_running past d
    then (if is_some (next_of_thread def d past) then None else in_way_of_run def past d) else None

-- a processor that has no entry due in its flow is kept by what its handler's call waits for: its
-- own flow
abbrev pub in_way_of_handler : LineDef → List Entry → Option DevNo → Option Obstacle
in_way_of_handler def past None = None
in_way_of_handler def past (Some d) =
    in_way_of_call def past (due_in_run def parts.Primary d past)

-- what comes, or is sent again, goes to one processor; else the mask is said before the signal
abbrev pub in_way_of_take : LineDef → List Entry → CpuNo → Option Obstacle
in_way_of_take def past c =
    if signals def past || is_soft past
    then (if is_cpu c (target def past) then None
    else option_map obstacles.Target (target def past))
    else (if is_masked def past then Some obstacles.Masked else Some obstacles.NoSignal)

abbrev pub in_way_of_cpu : LineDef → List Entry → CpuNo → Option Obstacle
in_way_of_cpu def past c =
    if is_cpu c (flow def past) then in_way_of_handler def past (at_work past)
    else in_way_of_take def past c

abbrev pub in_way : LineDef → List Entry → Actor → Option Obstacle
in_way def past (actors.Cpu c) = in_way_of_cpu def past c
in_way def past (actors.Thread d) = in_way_of_thread def past d
in_way def past (actors.Driver r) = in_way_of_call def past (due_call def r past)

abbrev pub obstacle_of : LineSeen → Actor → Option Obstacle
obstacle_of line a = in_way line.def (reverse line.entries) a
