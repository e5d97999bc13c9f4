use Rattle.irq_storms.proofs.never_full.Goals as goal
use Rattle.irq_storms.proofs.Laws.{never_full}

pub returns : goal.returns
returns c = record { law = never_full }
