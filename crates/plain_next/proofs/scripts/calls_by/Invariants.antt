use Rattle.std.proofs.Common.{◌≡◌, ◌++◌, drop}
use Rattle.irq_model.specs.Due.{calls_by}
use Rattle.plain_next.proofs.scripts.calls_by.Given as goal

abbrev pub invariant-loop-i : goal.invariant-loop-i
invariant-loop-i l = calls_by l.driver l.calls ≡ l.own.items ++ calls_by l.driver (drop l.i l.calls)
