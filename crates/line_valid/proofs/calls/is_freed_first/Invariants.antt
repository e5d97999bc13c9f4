use Rattle.std.proofs.Common.{◌≡◌, drop}
use Rattle.line_valid.specs.Deciding.{is_freed_first}
use Rattle.line_valid.proofs.calls.is_freed_first.Given as goal

abbrev pub invariant-loop-i : goal.invariant-loop-i
invariant-loop-i l = is_freed_first l.dev (drop l.from l.calls) ≡ is_freed_first l.dev (drop l.i l.calls)
