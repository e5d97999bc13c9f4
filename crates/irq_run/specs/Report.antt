-- What is printed of a run: the layout, and then each line's entries in the order in which they
-- were made, line by line in the board's order; or the layout, a summary of each line, and the
-- total.
use Rattle.std.specs.Prelude.{ℕ, Bool, true, false, List, ◌++◌}
use Rattle.std.specs.List.{flat_map}
use Rattle.board_def.specs.Seen.{BoardSeen}
use Rattle.log_text.specs.LayoutRows.{layout_rows}
use Rattle.log_text.specs.Rows.{history_text}
use Rattle.board_report.specs.Headline.{LineHistory}
use Rattle.board_report.specs.Totals.{totals_text}

-- a row for each entry, line by line
abbrev pub lines_text : List LineHistory → List ℕ
lines_text histories = flat_map (λ h. history_text h.0 h.1) histories

-- the rows after the layout: `summary` says whether they are a summary
abbrev pub rows_text : Bool → List LineHistory → List ℕ
rows_text false histories = lines_text histories
rows_text true histories = totals_text histories

abbrev pub run_text : BoardSeen → Bool → List LineHistory → List ℕ
run_text b summary histories = layout_rows b ++ rows_text summary histories
