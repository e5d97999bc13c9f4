use Rattle.irq_storms.proofs.calls_are_counted.Goals as goal
use Rattle.irq_storms.proofs.Laws.{calls_are_counted}

pub returns : goal.returns
returns c = record { law = calls_are_counted }
