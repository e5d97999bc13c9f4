use Rattle.std.proofs.Common.{◌≡◌}
use Rattle.device_table.proofs.Filling.{filled_to}
use Rattle.device_table.proofs.table.DeviceTable.fill.Given as goal

abbrev pub invariant-loop-place : goal.invariant-loop-place
invariant-loop-place g l = l.self ≡ filled_to l.row l.place l.fn.self
