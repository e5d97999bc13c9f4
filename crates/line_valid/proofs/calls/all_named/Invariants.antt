use Rattle.std.proofs.Common.{◌≡◌, drop}
use Rattle.std.specs.List.{list_all}
use Rattle.irq_model.specs.Valid.{names_one_of}
use Rattle.line_valid.proofs.calls.all_named.Given as goal

abbrev pub invariant-loop-i : goal.invariant-loop-i
invariant-loop-i l = list_all (λ c. names_one_of l.def.devices c.1) l.def.calls ≡ list_all (λ c. names_one_of l.def.devices c.1) (drop l.i l.def.calls)
