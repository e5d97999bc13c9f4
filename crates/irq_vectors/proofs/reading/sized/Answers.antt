use Rattle.std.proofs.Common.{arith}
use Rattle.irq_vectors.proofs.reading.sized.Goals as goal

pub invariant_of-result : goal.invariant_of-result
invariant_of-result c = record { cpus = omega arith; devices = omega arith; few = omega arith }
