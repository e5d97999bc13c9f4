use Rattle.irq_pm.proofs.Through.{kept_lines}
use Rattle.irq_pm.proofs.promises.sleep_keeps_lines.Goals as goal

pub returns : goal.returns
returns c = record { law = kept_lines }
