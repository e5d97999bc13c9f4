use Rattle.std.proofs.Common.{◌≡◌, ◌≤◌, reverse, drop, length}
use Rattle.line_words.specs.Node.{drivers_in}
use Rattle.line_space.proofs.drivers.drivers_of.Given as goal

abbrev pub invariant-loop-left : goal.invariant-loop-left
invariant-loop-left l = record {
  gathered : reverse l.drivers.items ≡ drivers_in (drop l.left l.calls);
  within : l.left ≤ length l.calls;
}

abbrev pub decreases-loop-left : goal.decreases-loop-left
decreases-loop-left l = l.left
