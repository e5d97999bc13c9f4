use Rattle.std.proofs.Common.{◌∙◌}
use Rattle.irq_top.proofs.Outcomes.{keeps_as_checked}
use Rattle.irq_top.proofs.commands.check.Goals as goal

pub returns-clause-keeps : goal.returns-clause-keeps
returns-clause-keeps g c =
    keeps_as_checked c.check_and_print-end.result c.without_reports.result.ending (c.without_reports.ensures.ending ∙ c.of_check.ensures)
    c.check_and_print-end.ensures.emptied c.check_and_print-end.ensures.write_fault c.check_and_print-end.ensures.silent
