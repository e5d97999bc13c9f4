use Rattle.std.proofs.Common.{◌≡◌, drop}
use Rattle.std.specs.List.{list_all}
use Rattle.line_valid.specs.DecidingRuns.{fits_device}
use Rattle.line_valid.proofs.runs.all_devices_fit.Given as goal

abbrev pub invariant-loop-i : goal.invariant-loop-i
invariant-loop-i l = list_all (λ x. fits_device l.def x.dev) l.def.devices ≡ list_all (λ x. fits_device l.def x.dev) (drop l.i l.def.devices)
