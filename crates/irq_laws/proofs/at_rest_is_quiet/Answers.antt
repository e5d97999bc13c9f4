use Rattle.irq_laws.proofs.RestLaws.{at_rest_is_quiet, at_rest_is_settled}
use Rattle.irq_laws.proofs.at_rest_is_quiet.Goals as goal

pub returns-clause-law : goal.returns-clause-law
returns-clause-law c = at_rest_is_quiet

pub returns-clause-settled : goal.returns-clause-settled
returns-clause-settled c = at_rest_is_settled
