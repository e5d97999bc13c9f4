use Rattle.irq_laws.proofs.KeptAlways.{kept}
use Rattle.irq_laws.proofs.kept.Goals as goal

pub returns : goal.returns
returns c = record { law = kept }
