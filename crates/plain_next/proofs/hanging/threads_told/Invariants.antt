use Rattle.std.proofs.Common.{◌≡◌, ◌++◌, drop}
use Rattle.plain_next.specs.Hanging.{threads_told}
use Rattle.plain_next.proofs.hanging.threads_told.Given as goal

abbrev pub invariant-loop-entry : goal.invariant-loop-entry
invariant-loop-entry l = threads_told l.past ≡ l.all.items ++ threads_told (drop l.entry-index l.past)
