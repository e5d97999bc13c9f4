use Rattle.irq_pm.proofs.Through.{lines_through, wake_named}
use Rattle.irq_pm.proofs.promises.sleeps_through.Goals as goal

pub returns : goal.returns
returns c = record { lines = λ b armed g end is long free calm played i x at. lines_through b armed g end is long free played calm i x at; wake = wake_named }
