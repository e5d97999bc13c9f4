use Rattle.irq_pm.proofs.LeftAlone.{left_alone}
use Rattle.irq_pm.proofs.sleeping.left_alone.Goals as goal

pub returns : goal.returns
returns c = record { law = left_alone }
