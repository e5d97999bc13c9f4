-- The places of rising numbers.
use Rattle.std.specs.Prelude.{◌≡◌, ◌<◌, ◌≤◌, ℕ, Option, Some, None, List, length, map, slice_get}
use Rattle.std.specs.Prelude.{slice_index}
use Rattle.irq_base.specs.declared.lines.LineDef.{LineDef}
use Rattle.irq_base.specs.declared.numbers.DriverNo.{DriverNo}
use Rattle.irq_line.specs.Seen.{LineSeen}

abbrev pub IsRising : List ℕ → Type 0
IsRising numbers =
    (i j : ℕ) → i ≤ j → j < length numbers → slice_index numbers i ≤ slice_index numbers j

-- the place in the list at which the number stands; none if it stands nowhere
abbrev pub IsPlaceOfNumber : List ℕ → ℕ → Option ℕ → Type 0
IsPlaceOfNumber numbers n None = (k : ℕ) → slice_get numbers k ≡ Some n → ⊥
IsPlaceOfNumber numbers n (Some k) = slice_get numbers k ≡ Some n

abbrev pub numbers_of_defs : List LineDef → List ℕ
numbers_of_defs defs = map (λ (d : LineDef). d.line.0) defs

abbrev pub numbers_of_lines : List LineSeen → List ℕ
numbers_of_lines lines = map (λ (x : LineSeen). x.def.line.0) lines

abbrev pub numbers_of_drivers : List DriverNo → List ℕ
numbers_of_drivers drivers = map (λ (r : DriverNo). r.0) drivers
