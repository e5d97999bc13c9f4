use Rattle.irq_storms.proofs.renewals_are_counted.Goals as goal
use Rattle.irq_storms.proofs.Laws.{renewals_are_counted}

pub returns : goal.returns
returns c = record { law = renewals_are_counted }
