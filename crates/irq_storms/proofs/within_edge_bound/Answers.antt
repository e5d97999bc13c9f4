use Rattle.irq_storms.proofs.within_edge_bound.Goals as goal
use Rattle.irq_storms.proofs.Laws.{within_edge_bound}

pub returns : goal.returns
returns c = record { law = within_edge_bound }
