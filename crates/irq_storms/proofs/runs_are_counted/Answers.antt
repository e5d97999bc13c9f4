use Rattle.irq_storms.proofs.runs_are_counted.Goals as goal
use Rattle.irq_storms.proofs.Laws.{runs_are_counted}

pub returns : goal.returns
returns c = record { law = runs_are_counted }
