use Rattle.irq_laws.proofs.LogLaws.{log_is_no_rule, legal_with_log}
use Rattle.irq_laws.proofs.log_is_no_rule.Goals as goal

pub returns-clause-law : goal.returns-clause-law
returns-clause-law c = log_is_no_rule

pub returns-clause-legal : goal.returns-clause-legal
returns-clause-legal c = legal_with_log
