use Rattle.std.proofs.Common.{◌≡◌, drop}
use Rattle.std.specs.List.{list_all}
use Rattle.irq_model.specs.ValidRuns.{names_own_device}
use Rattle.line_valid.proofs.runs.all_own_devices.Given as goal

abbrev pub invariant-loop-i : goal.invariant-loop-i
invariant-loop-i l = list_all (λ c. names_own_device l.def c.1) l.def.calls ≡ list_all (λ c. names_own_device l.def c.1) (drop l.i l.def.calls)
