use Rattle.irq_storms.proofs.within_level_bound.Goals as goal
use Rattle.irq_storms.proofs.Laws.{within_level_bound}

pub returns : goal.returns
returns c = record { law = within_level_bound }
