use Rattle.irq_storms.proofs.handled_are_counted.Goals as goal
use Rattle.irq_storms.proofs.Laws.{handled_are_counted}

pub returns : goal.returns
returns c = record { law = handled_are_counted }
