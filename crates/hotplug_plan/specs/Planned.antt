-- Which boards fit, and the board with the moves of its lines.
use Rattle.std.specs.Prelude.{◌≡◌, ◌^◌, ◌<◌, ◌≤◌, Bool, true, false, List, [], ◌∷◌, length, All}
use Rattle.std.specs.List.{flat_map, list_any}
use Rattle.irq_base.specs.declared.calls.Call.{Call}
use Rattle.irq_base.specs.declared.calls.Call.TheVariants as calls
use Rattle.board_def.specs.Rules.{has_driver, has_line}
use Rattle.board_def.specs.Seen.{BoardSeen}
use Rattle.board_def.specs.declared.rows.LineRow.{LineRow}
use Rattle.board_def.specs.declared.rows.ScriptCall.{ScriptCall}
use Rattle.board_driver.specs.Longer.{last_driver, with_last_driver}
use Rattle.board_driver.specs.declared.adding.LineCall.{LineCall}
use Rattle.irq_hotplug.specs.Fleet.{FleetSeen}
use Rattle.irq_hotplug.specs.declared.berths.Berth.{Berth}
use Rattle.irq_hotplug.specs.declared.events.Event.{Event}
use Rattle.irq_hotplug.specs.declared.events.Event.TheVariants as events
use Rattle.irq_hotplug.specs.declared.rows.FleetRow.{FleetRow}
use Rattle.irq_hotplug.specs.declared.rows.FleetRow.TheVariants as rows

-- ---- which boards fit

abbrev pub is_affinity : Call → Bool
is_affinity (calls.Affinity mask) = true
is_affinity _ = false

abbrev pub moves_a_line : ScriptCall → Bool
moves_a_line c = is_affinity c.call

abbrev pub moves_later : LineRow → Bool
moves_later row = row.later

-- No driver moves a line by itself, no line moves later, and there is room for one driver more and
-- its calls. All lines and calls are looked at, those of refused lines too.
pub record IsForHotplug (b : BoardSeen) : Type 0 where
  pub stays : list_any moves_a_line b.calls ≡ false
  pub at_once : list_any moves_later b.lines ≡ false
  pub driver : has_driver b.drivers last_driver ≡ false
  pub few_drivers : length b.drivers < 64
  pub few_calls : length b.calls ≤ 12224

-- ---- the planned board

-- a placing on another processor than the line's target by then is a move there
abbrev pub move_of : FleetRow → List LineCall
move_of (rows.Placed line v queues queue true) =
    record { line = line; call = calls.Affinity (2 ^ v.cpu.0) } ∷ []
move_of (rows.Placed line v queues queue false) = []
move_of _ = []

abbrev pub moves_of : List FleetRow → List LineCall
moves_of said = flat_map move_of said

-- the board with the moves as the calls of driver 65535
abbrev pub planned : BoardSeen → FleetSeen → BoardSeen
planned b f = with_last_driver b (moves_of f.said)

-- a processor is to go offline
abbrev pub is_off : Event → Bool
is_off (events.Off cpu) = true
is_off (events.On cpu) = false

-- a row of a placing names a processor that a machine may have
abbrev pub HasCpu : FleetRow → Type 0
HasCpu (rows.Placed line v queues queue moved) = v.cpu.0 < 32
HasCpu _ = Unit {0}

-- each of the lines is the board's
abbrev pub AreLinesOf : BoardSeen → List Berth → Type 0
AreLinesOf b berths = All (λ (x : Berth). has_line b.lines x.line ≡ true) berths
