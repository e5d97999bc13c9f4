use Rattle.irq_laws.proofs.Standstill.{flow_moves}
use Rattle.irq_laws.proofs.flow_moves.Goals as goal

pub returns : goal.returns
returns c = record { law = flow_moves }
