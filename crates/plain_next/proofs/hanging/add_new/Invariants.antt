use Rattle.std.proofs.Common.{◌≡◌, drop}
use Rattle.plain_next.specs.Hanging.{with_new}
use Rattle.plain_next.proofs.hanging.add_new.Given as goal

abbrev pub invariant-loop-other : goal.invariant-loop-other
invariant-loop-other l = with_new l.others l.initial.found.items ≡ with_new (drop l.other-index l.others) l.found.items
