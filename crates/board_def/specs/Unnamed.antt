-- What the rules of domains see of a board's rows: the domains without their names, and which
-- number each line asks for at which domain.
use Rattle.std.specs.Prelude.{ℕ, List, map}
use Rattle.irq_base.specs.declared.domains.DomainDef.{DomainDef}
use Rattle.board_def.specs.declared.rows.DomainRow.{DomainRow}
use Rattle.board_def.specs.declared.rows.LineRow.{LineRow}

abbrev pub def_of : DomainRow → DomainDef
def_of row = row.def

-- the domains without their names
abbrev pub defs_of : List DomainRow → List DomainDef
defs_of rows = map def_of rows

-- the place of the line's domain, and its own number there
abbrev pub leaf_of : LineRow → ℕ × ℕ
leaf_of row = (row.domain, row.hw)

abbrev pub leaves_of : List LineRow → List (ℕ × ℕ)
leaves_of rows = map leaf_of rows
