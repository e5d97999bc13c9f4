use Rattle.std.proofs.Common.{◌≡◌, drop}
use Rattle.std.specs.List.{list_all}
use Rattle.line_valid.specs.Deciding.{agrees, has_one_owner}
use Rattle.line_valid.proofs.calls.has_one_owner.Given as goal

abbrev pub invariant-loop-i : goal.invariant-loop-i
invariant-loop-i l = has_one_owner l.calls ≡ list_all (λ a. list_all (agrees a) l.calls) (drop l.i l.calls)
