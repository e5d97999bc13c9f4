use Rattle.irq_laws.proofs.OwnLaws.{due_is_own}
use Rattle.irq_laws.proofs.due_is_own.Goals as goal

pub returns : goal.returns
returns c = record { law = due_is_own }
