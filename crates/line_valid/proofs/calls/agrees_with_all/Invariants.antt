use Rattle.std.proofs.Common.{◌≡◌, drop}
use Rattle.std.specs.List.{list_all}
use Rattle.line_valid.specs.Deciding.{agrees}
use Rattle.line_valid.proofs.calls.agrees_with_all.Given as goal

abbrev pub invariant-loop-i : goal.invariant-loop-i
invariant-loop-i l = list_all (agrees l.call) l.calls ≡ list_all (agrees l.call) (drop l.i l.calls)
