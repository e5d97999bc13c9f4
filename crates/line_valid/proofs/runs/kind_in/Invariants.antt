use Rattle.std.proofs.Common.{◌≡◌, drop}
use Rattle.irq_model.specs.Lines.{kind_in}
use Rattle.line_valid.proofs.runs.kind_in.Given as goal

abbrev pub invariant-loop-i : goal.invariant-loop-i
invariant-loop-i l = kind_in l.devices l.dev ≡ kind_in (drop l.i l.devices) l.dev
