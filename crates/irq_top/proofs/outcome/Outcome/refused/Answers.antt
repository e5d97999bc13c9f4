use Rattle.std.proofs.Common.{ap}
use Rattle.irq_top.specs.Ending.{is_read_fault_end}
use Rattle.irq_top.proofs.outcome.Outcome.refused.Goals as goal

pub returns-clause-unread : goal.returns-clause-unread
returns-clause-unread c = ap is_read_fault_end c.without_reports.ensures.ending
