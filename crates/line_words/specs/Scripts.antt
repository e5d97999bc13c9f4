-- The drivers' scripts of a line.
use Rattle.std.specs.Prelude.{◌≡◌, List, []}
use Rattle.irq_base.specs.declared.lines.LineDef.{LineDef}
use Rattle.irq_base.specs.declared.numbers.DriverNo.{DriverNo}
use Rattle.irq_model.specs.Due.{calls_by}
use Rattle.line_scripts.specs.Rows.{RowSeen, calls_of, place_of, within_of}

-- they are the definition's calls; a driver without calls has begun none
pub record AreScripts (def : LineDef) (s : List (DriverNo × RowSeen)) : Type 0 where
  pub calls : (r : DriverNo) → calls_of s r ≡ calls_by r def.calls
  pub idle : (r : DriverNo) → calls_by r def.calls ≡ []
      → (place_of s r ≡ 0) × (within_of s r ≡ 0)
