-- How far each driver is with its calls, and what an entry makes of it.
use Rattle.std.specs.Prelude.{ℕ, suc, ◌+◌, Bool, if◌then◌else◌, List}
use Rattle.irq_base.specs.declared.entries.Entry.{Entry}
use Rattle.irq_base.specs.declared.lines.LineDef.{LineDef}
use Rattle.irq_base.specs.declared.numbers.DriverNo.{DriverNo}
use Rattle.irq_model.specs.Due.{calls_by, entries_by}
use Rattle.irq_model.specs.Laid.{Laid}

-- the driver's entries make all its calls before `place`, and the first `within` entries of the
-- next
abbrev pub IsAt : LineDef → List Entry → DriverNo → ℕ → ℕ → Type 0
IsAt def past r place within = Laid (calls_by r def.calls) (entries_by r past) place within

-- the place after the entry; `ends`: the entry completes the call
abbrev pub place_after : Bool → ℕ → ℕ
place_after ends place = if ends then suc place else place

-- how many entries the call at the new place has made
abbrev pub within_after : Bool → ℕ → ℕ
within_after ends within = if ends then 0 else within + 1
