use Rattle.std.proofs.Common.{◌≡◌, ℕ, ◌<◌, false, take, drop}
use Rattle.irq_model.specs.Due.{is_being_freed_at}
use Rattle.plain_next.proofs.due.mutex_holder.Given as goal

abbrev pub invariant-loop-i : goal.invariant-loop-i
invariant-loop-i l = (k : ℕ) → k < l.i → is_being_freed_at (take k l.past) (drop k l.past) ≡ false
