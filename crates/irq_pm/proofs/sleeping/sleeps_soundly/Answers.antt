use Rattle.irq_pm.proofs.SleepLaws.{sleeps_soundly}
use Rattle.irq_pm.proofs.sleeping.sleeps_soundly.Goals as goal

pub returns : goal.returns
returns c = record { law = sleeps_soundly }
