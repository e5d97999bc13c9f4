use Rattle.std.proofs.Common.{◌≡◌, drop}
use Rattle.std.specs.List.{list_all}
use Rattle.irq_model.specs.Kinds.{same_line}
use Rattle.line_valid.proofs.devices.all_on_line.Given as goal

abbrev pub invariant-loop-i : goal.invariant-loop-i
invariant-loop-i l = list_all (λ x. same_line x.line l.def.line) l.def.devices ≡ list_all (λ x. same_line x.line l.def.line) (drop l.i l.def.devices)
