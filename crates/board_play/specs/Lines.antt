-- The lines of a board that take part, which the layout doesn't refuse: each with its definition
-- and its history so far. What has happened on a board is a list of moves, each an entry of a line.
-- Moves and entries stand newest first.
use Rattle.std.specs.Prelude.{Option, Some, None, List, [], ◌∷◌, map, if◌then◌else◌}
use Rattle.irq_base.specs.declared.entries.Entry.{Entry}
use Rattle.irq_base.specs.declared.lines.LineDef.{LineDef}
use Rattle.irq_base.specs.declared.numbers.LineNo.{LineNo}
use Rattle.irq_model.specs.Kinds.{same_line}
use Rattle.board_def.specs.Layout.{layout_of}
use Rattle.domain_rules.specs.Layout.{is_mapped}
use Rattle.board_def.specs.LineOf.{line_of_row}
use Rattle.board_def.specs.Seen.{BoardSeen}
use Rattle.domain_rules.specs.declared.layouts.Placement.{Placement}
use Rattle.board_def.specs.declared.rows.LineRow.{LineRow}

-- a line, and its entries so far
pub record BoardLine : Type 0 where
  pub def : LineDef
  pub past : List Entry

abbrev pub Move : Type 0
Move = LineNo × Entry

-- the rows of the lines that have a place in the layout
abbrev pub mapped : List LineRow → List Placement → List LineRow
mapped [] places = []
mapped (row ∷ rows) [] = []
mapped (row ∷ rows) (place ∷ places) =
    if is_mapped place then (row ∷ mapped rows places) else mapped rows places

-- the definitions of the lines that take part, in the board's order, which is that of their numbers
abbrev pub defs_of : BoardSeen → List LineDef
defs_of b = map (line_of_row b) (mapped b.lines (layout_of b))

-- the line's entries among the moves
abbrev pub part : LineNo → List Move → List Entry
part line [] = []
part line (m ∷ g) = if same_line line m.0 then (m.1 ∷ part line g) else part line g

abbrev pub lines_at : List LineDef → List Move → List BoardLine
lines_at [] g = []
lines_at (def ∷ defs) g = record { def = def; past = part def.line g } ∷ lines_at defs g

-- the board's lines after these moves
abbrev pub lines_of : BoardSeen → List Move → List BoardLine
lines_of b g = lines_at (defs_of b) g

-- a line after one more move; below, all lines
abbrev pub line_after : Move → BoardLine → BoardLine
line_after m x =
    record { def = x.def; past = if same_line x.def.line m.0 then (m.1 ∷ x.past) else x.past }

abbrev pub lines_after : Move → List BoardLine → List BoardLine
lines_after m lines = map (line_after m) lines

-- the line with this number
abbrev pub find_line : List BoardLine → LineNo → Option BoardLine
find_line [] line = None
find_line (x ∷ xs) line = if same_line line x.def.line then Some x else find_line xs line
