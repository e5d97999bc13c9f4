-- Which lines a hierarchy has chips for.
use Rattle.std.specs.Prelude.{◌≡◌, ℕ, IsSomeAnd, Some, List, slice_get}
use Rattle.irq_base.specs.Cell.{Cell, fresh_cell}
use Rattle.irq_base.specs.declared.lines.LineDef.{LineDef}
use Rattle.irq_model.specs.Lines.{serves}
use Rattle.irq_model.specs.Valid.{IsValid}
use Rattle.irq_model.specs.ValidRuns.{HasValidRuns}
use Rattle.board_def.specs.Layout.{layout_of}
use Rattle.board_def.specs.LineOf.{line_of_row}
use Rattle.board_def.specs.Seen.{BoardSeen}
use Rattle.board_def.specs.declared.rows.LineRow.{LineRow}
use Rattle.domain_hier.specs.Hierarchies.{HierarchySeen}
use Rattle.domain_hier.specs.PathsInUse.{path_in}
use Rattle.domain_rules.specs.Levels.{cell_of}
use Rattle.domain_rules.specs.Paths.{kinds_on}
use Rattle.domain_rules.specs.declared.layouts.Placement.TheVariants as placements

-- the cell that the definition describes, before anything was done to it
abbrev pub cell_of_line : LineDef → Cell
cell_of_line def = fresh_cell def.trigger def.keeps def.recalls def.retriggers (serves def)

-- the virq has a path, and the path's levels together are the cell that the definition describes
pub record HasChips (h : HierarchySeen) (virq : ℕ) (def : LineDef) : Type 0 where
  pub valid : IsValid def
  pub runs : HasValidRuns def
  pub chips : IsSomeAnd (path_in h.paths virq) (λ path. cell_of (kinds_on h.domains path)
      ≡ cell_of_line def)

-- each line of the board that takes part has such a path, by its virq in the layout and its
-- definition
abbrev pub HasAllChips : HierarchySeen → BoardSeen → Type 0
HasAllChips h board =
    (i virq : ℕ) (path : List (ℕ × ℕ)) (row : LineRow) → slice_get board.lines i ≡ Some row
    → slice_get (layout_of board) i ≡ Some (placements.Mapped virq path)
    → HasChips h virq (line_of_row board row)
