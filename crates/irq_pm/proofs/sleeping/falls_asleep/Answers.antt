use Rattle.irq_pm.proofs.Falls.{falls_asleep}
use Rattle.irq_pm.proofs.sleeping.falls_asleep.Goals as goal

pub returns : goal.returns
returns c = record { law = falls_asleep }
