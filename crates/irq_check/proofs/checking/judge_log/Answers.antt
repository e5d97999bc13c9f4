use Rattle.board_def.specs.LineOf.{line_of_row}
use Rattle.irq_check.proofs.Limits.{limited}
use Rattle.irq_check.proofs.checking.judge_log.Goals as goal

pub check_log-requires-clause-makes : goal.check_log-requires-clause-makes
check_log-requires-clause-makes g c = λ i virq path row at placed. limited c.of_board-maker.result virq
    (line_of_row c.args.board.now row) (c.of_board-maker.ensures.makes i virq path row at placed)
