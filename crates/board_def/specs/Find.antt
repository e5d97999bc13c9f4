-- Where a board's rows stand.
use Rattle.std.specs.Prelude.{ℕ, ◌==◌, Option, Some, None, List, [], ◌∷◌, position}
use Rattle.std.specs.Option.{option_map}
use Rattle.irq_base.specs.declared.devices.DeviceDef.{DeviceDef}
use Rattle.irq_base.specs.declared.numbers.DevNo.{DevNo}
use Rattle.irq_base.specs.declared.numbers.DriverNo.{DriverNo}
use Rattle.irq_base.specs.declared.numbers.LineNo.{LineNo}
use Rattle.board_def.specs.Rules.{is_domain_named}
use Rattle.board_def.specs.declared.names.Name.{Name}
use Rattle.board_def.specs.declared.rows.DomainRow.{DomainRow}
use Rattle.board_def.specs.declared.rows.LineRow.{LineRow}

-- the place of the first domain with this name
abbrev pub place_of_name : List DomainRow → Name → Option ℕ
place_of_name domains name = position (is_domain_named name) domains

-- the place of the first line with this number
abbrev pub place_of_line : List LineRow → LineNo → Option ℕ
place_of_line lines line = position (λ row. line.0 == row.line.0) lines

abbrev pub last_from : {A : Type 0} → A → List A → A
last_from x [] = x
last_from x (y ∷ ys) = last_from y ys

abbrev pub last_item : {A : Type 0} → List A → Option A
last_item [] = None
last_item (x ∷ xs) = Some (last_from x xs)

-- the number of the last line; none if there is none
abbrev pub last_line : List LineRow → Option LineNo
last_line rows = option_map (λ row. row.line) (last_item rows)

-- the number of the last device
abbrev pub last_device : List DeviceDef → Option DevNo
last_device devices = option_map (λ device. device.dev) (last_item devices)

-- the number of the last driver
abbrev pub last_driver : List DriverNo → Option DriverNo
last_driver drivers = last_item drivers
