use Rattle.irq_storms.proofs.level_is_counted.Goals as goal
use Rattle.irq_storms.proofs.Laws.{level_is_counted}

pub returns : goal.returns
returns c = record { law = level_is_counted }
