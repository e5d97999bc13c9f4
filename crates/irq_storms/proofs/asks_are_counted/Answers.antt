use Rattle.irq_storms.proofs.asks_are_counted.Goals as goal
use Rattle.irq_storms.proofs.Laws.{asks_are_counted}

pub returns : goal.returns
returns c = record { law = asks_are_counted }
