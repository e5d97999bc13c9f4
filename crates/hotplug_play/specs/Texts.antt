-- What is printed of a board on processors that go offline: the layout, where lines are placed and
-- what becomes of processors, and then the moves of the play.
use Rattle.std.specs.Prelude.{ℕ, List, ◌++◌}
use Rattle.std.specs.List.{flat_map}
use Rattle.board_def.specs.Seen.{BoardSeen}
use Rattle.board_play.specs.Lines.{Move}
use Rattle.log_text.specs.LayoutRows.{layout_rows}
use Rattle.play_report.specs.Report.{moves_text}
use Rattle.irq_hotplug.specs.declared.rows.FleetRow.{FleetRow}
use Rattle.hotplug_play.specs.Rows.{row_text}

-- all that was said, in order
abbrev pub fleet_text : List FleetRow → List ℕ
fleet_text said = flat_map row_text said

abbrev pub hotplug_text : BoardSeen → List FleetRow → List Move → List ℕ
hotplug_text b said g = layout_rows b ++ fleet_text said ++ moves_text g
