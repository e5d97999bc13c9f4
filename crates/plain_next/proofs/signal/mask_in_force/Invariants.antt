use Rattle.std.proofs.Common.{◌≡◌, ℕ, ◌<◌, false, take, drop}
use Rattle.irq_model.specs.Signal.{puts_in_force}
use Rattle.plain_next.proofs.signal.mask_in_force.Given as goal

abbrev pub invariant-loop-i : goal.invariant-loop-i
invariant-loop-i l = (k : ℕ) → k < l.i → puts_in_force (take k l.past) (drop k l.past) ≡ false
