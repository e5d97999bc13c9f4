use Rattle.irq_laws.proofs.OwnLaws.{takes_at_target, one_takes}
use Rattle.irq_laws.proofs.one_takes.Goals as goal

pub returns-clause-law : goal.returns-clause-law
returns-clause-law c = takes_at_target

pub returns-clause-one : goal.returns-clause-one
returns-clause-one c = one_takes
