-- A board with one driver more, the last of all, for what the system itself does.
use Rattle.std.specs.Prelude.{◌≡◌, Bool, true, false, List, [], ◌∷◌, ◌++◌, map}
use Rattle.irq_base.specs.declared.calls.Call.{Call}
use Rattle.irq_base.specs.declared.calls.Call.TheVariants as calls
use Rattle.irq_base.specs.declared.numbers.DriverNo.{DriverNo}
use Rattle.board_def.specs.Rules.{has_line}
use Rattle.board_def.specs.Seen.{BoardSeen}
use Rattle.board_def.specs.declared.rows.ScriptCall.{ScriptCall}
use Rattle.board_driver.specs.declared.adding.LineCall.{LineCall}

-- the greatest number that a driver may have
abbrev pub last_driver : DriverNo
last_driver = record { 0 = 65535 }

abbrev pub by_last : LineCall → ScriptCall
by_last c = record { driver = last_driver; line = c.line; call = c.call }

-- the board with that driver behind the others, and these calls as its script; its lines, devices
-- and domains are as they were
abbrev pub with_last_driver : BoardSeen → List LineCall → BoardSeen
with_last_driver b cs =
    record b { drivers = b.drivers ++ last_driver ∷ []; calls = b.calls ++ map by_last cs }

-- the call names a device
abbrev pub is_of_device : Call → Bool
is_of_device (calls.Ask dev) = true
is_of_device (calls.Request dev flags) = true
is_of_device (calls.Free dev) = true
is_of_device (calls.Wake dev) = true
is_of_device (calls.Quiet dev) = true
is_of_device (calls.Arm dev) = true
is_of_device (calls.Serve dev) = true
is_of_device _ = false

-- the line is the board's, and the call names no device
pub record IsOfALine (b : BoardSeen) (c : LineCall) : Type 0 where
  pub line : has_line b.lines c.line ≡ true
  pub no_device : is_of_device c.call ≡ false
