use Rattle.std.proofs.Common.{ℕ}
use Rattle.irq_base.specs.declared.entries.AffinityAnswer.{AffinityAnswer}
use Rattle.irq_base.specs.declared.entries.DriverEntry.TheVariants as drivers
use Rattle.log_read.proofs.Taking.{made, both}
use Rattle.log_read.proofs.drivers.affinity.Goals as goal

pub returns : goal.returns
returns c = made (λ (p : ℕ × AffinityAnswer). drivers.Affinity p.1 p.0) (both c.number-mask.ensures c.moved-answer.ensures)
