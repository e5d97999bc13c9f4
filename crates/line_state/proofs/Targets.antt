-- The target is one of the machine's processors, and there are at most 32.
use Rattle.std.proofs.Common.{◌≡◌, ℕ, ◌<◌, ◌≤◌, Some, sym, arith}
use Rattle.irq_base.specs.declared.numbers.CpuNo.{CpuNo}
use Rattle.irq_model.specs.Signal.{lowest_in}
use Rattle.line_marks.proofs.TargetFollow.{lowest_below}

pub target_below : (cpus mask : ℕ) (k : CpuNo) → Some k ≡ lowest_in cpus mask → cpus ≤ 32 → k.0 < 32
target_below cpus mask k h few = let l : k.0 < cpus = lowest_below cpus mask k (sym h) in omega (arith, few, l)
