use Rattle.std.proofs.Common.{◌≡◌, ◌≤◌, ◌+◌, drop, length}
use Rattle.irq_model.specs.Lines.{script_in}
use Rattle.line_valid.proofs.runs.script_length.Given as goal

abbrev pub invariant-loop-i : goal.invariant-loop-i
invariant-loop-i l = (length (script_in l.runs l.dev l.part) ≡ l.count + length (script_in (drop l.i l.runs) l.dev l.part)) × (l.count ≤ l.i)
