-- How the line is left, read off its state.
use Rattle.std.specs.Prelude.{ℕ, ◌&&◌, if◌then◌else◌, nat_lt, Option, Some, None}
use Rattle.std.specs.Prelude.{List}
use Rattle.std.specs.List.{sum_by}
use Rattle.irq_base.specs.declared.devices.DeviceDef.{DeviceDef}
use Rattle.irq_base.specs.declared.lines.LineDef.{LineDef}
use Rattle.irq_base.specs.declared.numbers.DevNo.{DevNo}
use Rattle.irq_base.specs.declared.numbers.DriverNo.{DriverNo}
use Rattle.irq_model.specs.Lines.{is_edge_line}
use Rattle.device_table.specs.Rows.{at}
use Rattle.act_list.specs.Actions.{is_bare}
use Rattle.ask_counts.specs.declared.rows.AskRow.{AskRow}
use Rattle.line_scripts.specs.Rows.{RowSeen}
use Rattle.line_marks.specs.State.{StateSeen}
use Rattle.line_core.specs.Hanging.{lowest_hung_by}
use Rattle.line_wanted.specs.declared.left.Left.{Left}
use Rattle.line_wanted.specs.declared.left.Standing.{Standing}
use Rattle.line_wanted.specs.declared.left.Standing.TheVariants as standings

abbrev pub standing_seen : StateSeen → Standing
standing_seen s =
    if is_bare s.list.actions then standings.Stopped
    else (if nat_lt 0 s.desc.depth
    then (if s.desc.spurious then standings.Killed else standings.Disabled)
    else standings.Enabled)

abbrev pub unserved_seen : Option AskRow → ℕ
unserved_seen None = 0
unserved_seen (Some r) = r.unserved

-- the unserved asks of these devices
abbrev pub unserved_in : List (DevNo × AskRow) → List DeviceDef → ℕ
unserved_in asks devices = sum_by (λ x. unserved_seen (at asks x.dev)) devices

abbrev pub left_seen : LineDef → StateSeen → List (DriverNo × RowSeen) → Left
left_seen def s scripts = record {
  hung = lowest_hung_by def s scripts;
  standing = standing_seen s;
  unserved = unserved_in s.asks def.devices;
  stored = is_edge_line def && s.cell.stored;
  pending = is_edge_line def && s.desc.pending;
}
