use Rattle.std.proofs.Common.{◌≡◌, drop}
use Rattle.std.specs.List.{list_any}
use Rattle.irq_model.specs.Lines.{script_in}
use Rattle.irq_model.specs.RunBounds.{arms_this}
use Rattle.line_valid.proofs.runs.does_arm.Given as goal

abbrev pub invariant-loop-i : goal.invariant-loop-i
invariant-loop-i l = list_any (arms_this l.dev) (script_in l.runs l.dev l.part) ≡ list_any (arms_this l.dev) (script_in (drop l.i l.runs) l.dev l.part)
