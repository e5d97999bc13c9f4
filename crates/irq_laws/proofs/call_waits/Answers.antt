use Rattle.std.proofs.Common.{reverse}
use Rattle.irq_laws.proofs.BlockLaws.{call_waits}
use Rattle.irq_laws.proofs.call_waits.Goals as goal

pub returns : goal.returns
returns c = record { law = λ def h. call_waits def (reverse h) }
