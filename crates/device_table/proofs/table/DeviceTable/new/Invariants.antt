use Rattle.std.proofs.Common.{◌≡◌, take}
use Rattle.device_table.specs.Rows.{all_with}
use Rattle.device_table.proofs.table.DeviceTable.new.Given as goal

abbrev pub invariant-loop-i : goal.invariant-loop-i
invariant-loop-i g l = l.table ≡ all_with l.row (take l.i l.devices)
