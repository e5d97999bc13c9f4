-- Whether an ask makes an edge, by what was unserved of its device before, and whether it was
-- quiet.
use Rattle.std.specs.Prelude.{◌==◌, Bool, true, not, ◌||◌, ◌&&◌, Option, Some, None}
use Rattle.irq_base.specs.declared.lines.LineDef.{LineDef}
use Rattle.irq_model.specs.Lines.{is_edge_line}
use Rattle.ask_counts.specs.declared.rows.AskRow.{AskRow}

abbrev pub asks_with_edge : Bool → Option AskRow → Bool
asks_with_edge held None = true
asks_with_edge held (Some r) = not r.quiet && (not held || (r.unserved == 0))

abbrev pub asks_by_row : LineDef → Bool → Option AskRow → Bool
asks_by_row def held row = not (is_edge_line def) || asks_with_edge held row
