-- Who moves on a board, and where (ours).
use Rattle.std.specs.Prelude.{is_some, Option, Some, None, List, [], ◌∷◌, ◌++◌, map, if◌then◌else◌}
use Rattle.irq_base.specs.declared.devices.DeviceDef.{DeviceDef}
use Rattle.irq_base.specs.declared.entries.Actor.{Actor}
use Rattle.irq_base.specs.declared.entries.Actor.TheVariants as actors
use Rattle.irq_base.specs.declared.entries.Entry.{Entry}
use Rattle.irq_base.specs.declared.numbers.CpuNo.{CpuNo}
use Rattle.irq_base.specs.declared.numbers.LineNo.{LineNo}
use Rattle.irq_model.specs.Next.{next_past}
use Rattle.irq_model.specs.Rounds.{flow, is_cpu}
use Rattle.play_laws.specs.Actors.{count_up}
use Rattle.board_def.specs.Rules.{find_device}
use Rattle.board_def.specs.Seen.{BoardSeen}
use Rattle.board_play.specs.Current.{current_line}
use Rattle.board_play.specs.Lines.{BoardLine, Move, find_line}

-- the line of a device; a device that the board lacks has none
abbrev pub device_line : List BoardLine → Option DeviceDef → Option BoardLine
device_line lines None = None
device_line lines (Some x) = find_line lines x.line

-- the lowest line on which the processor has a flow in progress
abbrev pub flow_line : List BoardLine → CpuNo → Option BoardLine
flow_line [] c = None
flow_line (x ∷ xs) c = if is_cpu c (flow x.def x.past) then Some x else flow_line xs c

-- the lowest line on which an entry of the processor is due
abbrev pub due_line : List BoardLine → CpuNo → Option BoardLine
due_line [] c = None
due_line (x ∷ xs) c =
    if is_some (next_past x.def x.past (actors.Cpu c)) then Some x else due_line xs c

abbrev pub or_line : Option BoardLine → Option BoardLine → Option BoardLine
or_line None other = other
or_line (Some x) other = Some x

-- The line on which the actor may step. For a thread: the line of its device. For a processor: the
-- lowest line on which it has a flow, else the lowest on which an entry of it is due; so it never
-- has two flows. For a driver: the line of its current call.
abbrev pub line_for : BoardSeen → List BoardLine → Actor → Option BoardLine
line_for board lines (actors.Thread d) = device_line lines (find_device board.devices d)
line_for board lines (actors.Cpu c) = or_line (flow_line lines c) (due_line lines c)
line_for board lines (actors.Driver r) = current_line board.calls lines r

abbrev pub move_on : LineNo → Option Entry → Option Move
move_on line None = None
move_on line (Some e) = Some (line, e)

abbrev pub due_on : Option BoardLine → Actor → Option Move
due_on None a = None
due_on (Some x) a = move_on x.def.line (next_past x.def x.past a)

-- the actor's move: its line, and the entry that is due there; none if it can't move
abbrev pub due_move : BoardSeen → List BoardLine → Actor → Option Move
due_move board lines a = due_on (line_for board lines a) a

-- the actors in order, the lowest first: the threads by the number of their device, whatever its
-- line; the processors; the drivers. The devices and the drivers of a board stand in rising order.
abbrev pub threads_of : BoardSeen → List Actor
threads_of b = map (λ x. actors.Thread x.dev) b.devices

abbrev pub cpus_of : BoardSeen → List Actor
cpus_of b = map (λ n. actors.Cpu (record { 0 = n })) (count_up 0 b.cpus)

abbrev pub drivers_of : BoardSeen → List Actor
drivers_of b = map (λ r. actors.Driver r) b.drivers

abbrev pub actors_of : BoardSeen → List Actor
actors_of b = threads_of b ++ (cpus_of b ++ drivers_of b)
