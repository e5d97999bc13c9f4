use Rattle.std.proofs.Common.{◌≡◌}
use Rattle.ask_counts.proofs.FactRows.{any_from}
use Rattle.ask_counts.proofs.facts.serves_itself.Given as goal

abbrev pub invariant-loop-i : goal.invariant-loop-i
invariant-loop-i l = any_from l.dev l.part l.runs 0 ≡ any_from l.dev l.part l.runs l.i
