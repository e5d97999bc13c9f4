use Rattle.std.proofs.Common.{◌≡◌, drop}
use Rattle.line_valid.specs.Deciding.{is_freed_between}
use Rattle.line_valid.proofs.calls.is_freed_between.Given as goal

abbrev pub invariant-loop-i : goal.invariant-loop-i
invariant-loop-i l = is_freed_between l.calls ≡ is_freed_between (drop l.i l.calls)
