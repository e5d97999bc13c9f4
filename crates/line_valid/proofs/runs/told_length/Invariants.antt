use Rattle.std.proofs.Common.{◌≡◌, ◌≤◌, ◌+◌, drop, length}
use Rattle.irq_model.specs.Lines.{told_in}
use Rattle.line_valid.proofs.runs.told_length.Given as goal

abbrev pub invariant-loop-i : goal.invariant-loop-i
invariant-loop-i l = (length (told_in l.told l.dev l.part) ≡ l.count + length (told_in (drop l.i l.told) l.dev l.part)) × (l.count ≤ l.i)
