-- What is printed of a play: the layout, and then the moves as they were made; or the layout, a
-- summary of each line, and the total.
use Rattle.std.specs.Prelude.{ℕ, Bool, true, false, List, ◌++◌}
use Rattle.board_def.specs.Seen.{BoardSeen}
use Rattle.board_play.specs.Lines.{Move}
use Rattle.log_text.specs.LayoutRows.{layout_rows}
use Rattle.board_report.specs.Totals.{totals_text}
use Rattle.irq_play.specs.Headline.{histories_of}
use Rattle.play_report.specs.Report.{moves_text}

-- the report of a play of the board with these moves: `summary` says whether it is a summary
abbrev pub report_text : BoardSeen → Bool → List Move → List ℕ
report_text b false g = layout_rows b ++ moves_text g
report_text b true g = layout_rows b ++ totals_text (histories_of b g)
