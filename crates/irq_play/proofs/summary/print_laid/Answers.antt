use Rattle.std.proofs.lemmas.Result.{err_from_is_err_and}
use Rattle.play_report.proofs.Answered.{came_to}
use Rattle.irq_play.proofs.summary.print_laid.Goals as goal

pub returns-in_err-print_layout-clause-prints : goal.returns-in_err-print_layout-clause-prints
returns-in_err-print_layout-clause-prints g c =
    let p = err_from_is_err_and c.from_residual-in_err-print_layout.result c.from_residual-in_err-print_layout.ensures.1 in
    rw (p.1, p.2) (came_to c.args.play.now.end c.in_ok-end.end c.in_ok-end.ensures, c.in_err-print_layout.ensures.content)
