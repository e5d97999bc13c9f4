-- The phases of a sleep, as an order of steps (`kernel/power/suspend.c`): the board's picks are
-- played; the system's driver disables each line and waits for its handlers and threads; devices
-- ask, until an armed line wakes the machine or nothing is left to happen; the driver enables each
-- line; the board is played on to its end.
use Rattle.std.specs.Prelude.{Bool, true, false, not, ◌&&◌, if◌then◌else◌, Option, Some, None}
use Rattle.std.specs.Prelude.{List, [], ◌∷◌, ◌++◌}
use Rattle.irq_base.specs.declared.calls.Call.{Call}
use Rattle.irq_base.specs.declared.calls.Call.TheVariants as calls
use Rattle.irq_base.specs.declared.entries.Actor.{Actor}
use Rattle.irq_base.specs.declared.entries.Actor.TheVariants as actors
use Rattle.irq_base.specs.declared.numbers.DriverNo.{DriverNo}
use Rattle.irq_base.specs.declared.numbers.LineNo.{LineNo}
use Rattle.irq_model.specs.Kinds.{same_driver}
use Rattle.board_def.specs.Seen.{BoardSeen}
use Rattle.board_driver.specs.Longer.{last_driver}
use Rattle.board_core.specs.Firsts.{call_on}
use Rattle.board_core.specs.declared.turns.DueCall.{DueCall}
use Rattle.board_play.specs.Current.{current_line}
use Rattle.board_play.specs.Lines.{BoardLine, Move, lines_of}
use Rattle.board_play.specs.Order.{due_move, threads_of, cpus_of, actors_of}
use Rattle.board_play.specs.Play.{first_move, or_move}
use Rattle.board_play.specs.Orders.{Order}
use Rattle.irq_pm.specs.SleepLog.{told, moves_of}
use Rattle.irq_pm.specs.Waking.{woken_by}
use Rattle.irq_pm.specs.declared.entries.SleepEntry.{SleepEntry}
use Rattle.irq_pm.specs.declared.entries.SleepEntry.TheVariants as sleeps

pub data Phase : Type 0 where
  -- the picks that are left are played
  Picking : List Actor → Phase
  -- the system's driver disables the lines
  Disabling : Phase
  Asleep : Phase
  -- the system's driver enables the lines
  Enabling : Phase
  -- the board is played on
  Going : Phase

-- a step, and the phase after it
abbrev pub Next : Type 0
Next = SleepEntry × Phase

abbrev pub or_next : Option Next → Option Next → Option Next
or_next None other = other
or_next (Some next) other = Some next

-- the move is made, and the phase after it is this
abbrev pub step_in : Phase → Option Move → Option Next
step_in phase None = None
step_in phase (Some m) = Some (sleeps.Step m.0 m.1, phase)

-- ---- who moves

-- the call that the driver is at
abbrev pub due_of : BoardSeen → List BoardLine → DriverNo → Option DueCall
due_of b lines r = call_on (current_line b.calls lines r) r

abbrev pub is_disable_call : Call → Bool
is_disable_call calls.Disable = true
is_disable_call _ = false

abbrev pub is_ask_call : Call → Bool
is_ask_call (calls.Ask dev) = true
is_ask_call _ = false

abbrev pub is_disable_due : Option DueCall → Bool
is_disable_due None = false
is_disable_due (Some due) = is_disable_call due.call

abbrev pub is_ask_due : Option DueCall → Bool
is_ask_due None = false
is_ask_due (Some due) = is_ask_call due.call

-- of the system's driver
abbrev pub last_move : BoardSeen → List BoardLine → Option Move
last_move b lines = due_move b lines (actors.Driver last_driver)

-- of the lowest thread or processor that can move
abbrev pub inner_move : BoardSeen → List BoardLine → Option Move
inner_move b lines = first_move b lines (threads_of b ++ cpus_of b)

-- a driver of a device whose call is an ask
abbrev pub asks_next : BoardSeen → List BoardLine → DriverNo → Bool
asks_next b lines r = not (same_driver r last_driver) && is_ask_due (due_of b lines r)

abbrev pub first_asking : BoardSeen → List BoardLine → List DriverNo → Option DriverNo
first_asking b lines [] = None
first_asking b lines (r ∷ rs) =
    if asks_next b lines r then Some r else first_asking b lines rs

abbrev pub move_of_driver : BoardSeen → List BoardLine → Option DriverNo → Option Move
move_of_driver b lines None = None
move_of_driver b lines (Some r) = due_move b lines (actors.Driver r)

-- of the lowest driver of a device whose call is an ask
abbrev pub ask_move : BoardSeen → List BoardLine → Option Move
ask_move b lines = move_of_driver b lines (first_asking b lines b.drivers)

-- ---- the phases

-- the first of the picks that can move
abbrev pub picked : BoardSeen → List BoardLine → List Actor → Option Next
picked b lines [] = None
picked b lines (pick ∷ picks) =
    or_next (step_in (Picking picks) (due_move b lines pick)) (picked b lines picks)

-- While a disable isn't complete the system's driver moves; where it waits, the lowest thread or
-- processor does.
abbrev pub disabling : BoardSeen → List BoardLine → Option Next
disabling b lines =
    if is_disable_due (due_of b lines last_driver)
    then step_in Disabling (or_move (last_move b lines) (inner_move b lines))
    else Some (sleeps.Asleep, Asleep)

-- Threads and processors move first, then devices ask. The machine wakes as soon as an armed line
-- has woken it, and if nobody can move.
abbrev pub sleeping : Option LineNo → BoardSeen → List BoardLine → Option Next
sleeping (Some line) b lines = Some (sleeps.Wake (Some line), Enabling)
sleeping None b lines =
    or_next (step_in Asleep (or_move (inner_move b lines) (ask_move b lines)))
    (Some (sleeps.Wake None, Enabling))

abbrev pub going : BoardSeen → List BoardLine → Option Next
going b lines = step_in Going (first_move b lines (actors_of b))

-- the next step after these moves, and the phase after it
abbrev pub sleep_next : BoardSeen → List LineNo → List Move → Phase → Option Next
sleep_next b armed g (Picking picks) =
    or_next (picked b (lines_of b g) picks) (disabling b (lines_of b g))
sleep_next b armed g Disabling = disabling b (lines_of b g)
sleep_next b armed g Asleep = sleeping (woken_by armed g) b (lines_of b g)
sleep_next b armed g Enabling =
    or_next (step_in Enabling (last_move b (lines_of b g))) (going b (lines_of b g))
sleep_next b armed g Going = going b (lines_of b g)

-- the order of a sleep of the board, which has the system's driver, with these lines armed
abbrev pub sleep_order : BoardSeen → List LineNo → Order Phase SleepEntry
sleep_order b armed =
    record { told = told; next = λ g phase. sleep_next b armed (moves_of g) phase; log = b.log }
