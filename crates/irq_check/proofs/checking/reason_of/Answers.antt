use Rattle.board_def.specs.LineOf.{line_of_row}
use Rattle.irq_check.proofs.Limits.{limited}
use Rattle.irq_check.proofs.Reasons.{explained_if}
use Rattle.irq_check.proofs.checking.reason_of.Goals as goal

pub explain_log-requires-clause-makes : goal.explain_log-requires-clause-makes
explain_log-requires-clause-makes g c = λ i virq path row at placed. limited c.args.maker.now virq
    (line_of_row c.args.board.now row) (c.requires.makes i virq path row at placed)

pub returns-in-Unlawful-clause-reason : goal.returns-in-Unlawful-clause-reason
returns-in-Unlawful-clause-reason g c =
    explained_if c.args.board.now c.args.log.now c.args.verdict c.in-Unlawful.line _ c.in-Unlawful.is c.requires.verdict c.explain_log.result
    c.explain_log.ensures.explains
