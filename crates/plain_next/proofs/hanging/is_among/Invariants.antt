use Rattle.std.proofs.Common.{◌≡◌, drop}
use Rattle.plain_next.specs.Hanging.{is_among}
use Rattle.plain_next.proofs.hanging.is_among.Given as goal

abbrev pub invariant-loop-other : goal.invariant-loop-other
invariant-loop-other l = is_among l.found l.actor ≡ is_among (drop l.other-index l.found) l.actor
