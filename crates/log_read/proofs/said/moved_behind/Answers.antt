use Rattle.irq_base.specs.declared.entries.AffinityAnswer.TheVariants as affinities
use Rattle.irq_base.specs.declared.entries.Errno.TheVariants as errnos
use Rattle.log_read.proofs.Taking.{made}
use Rattle.log_read.proofs.said.moved_behind.Goals as goal

pub returns-in-Refused : goal.returns-in-Refused
returns-in-Refused c = rw c.in-Refused.is (made (λ (u : Unit {0}). affinities.Refused errnos.Inval) c.expect.ensures)
