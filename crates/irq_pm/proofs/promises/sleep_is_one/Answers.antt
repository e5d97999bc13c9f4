use Rattle.irq_pm.proofs.Through.{one_sleep}
use Rattle.irq_pm.proofs.promises.sleep_is_one.Goals as goal

pub returns : goal.returns
returns c = record { law = one_sleep }
