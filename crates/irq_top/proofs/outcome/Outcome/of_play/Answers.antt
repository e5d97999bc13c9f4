use Rattle.std.proofs.Common.{ap, ◌∙◌}
use Rattle.irq_top.proofs.Outcomes.{plays_read_nothing}
use Rattle.irq_top.specs.Ending.{is_read_fault_end}
use Rattle.irq_top.proofs.outcome.Outcome.of_play.Goals as goal

pub returns-clause-unread : goal.returns-clause-unread
returns-clause-unread c = ap is_read_fault_end c.of_play.ensures ∙ plays_read_nothing c.args.played.end
