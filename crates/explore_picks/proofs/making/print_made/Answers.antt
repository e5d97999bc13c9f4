use Rattle.std.proofs.Common.{List, subst, Ok, Err}
use Rattle.std.proofs.lemmas.Result.{err_from_is_err_and}
use Rattle.irq_base.specs.declared.entries.Actor.{Actor}
use Rattle.irq_io.specs.Whole.{WritesAll}
use Rattle.board_play.specs.Lines.{Move}
use Rattle.board_report.proofs.Writing.{and_then, failed_within}
use Rattle.play_report.specs.Report.{moves_text}
use Rattle.explore_picks.specs.Rows.{picks_text}
use Rattle.explore_picks.proofs.making.print_made.Goals as goal

pub returns-in_err-print_moves-clause-content : goal.returns-in_err-print_moves-clause-content
returns-in_err-print_moves-clause-content g c =
    let sink = g.O.Sink.written in
    let failed = c.in_err-print_moves.field-0.0 in
    let p = err_from_is_err_and c.from_residual.result c.from_residual.ensures.1 in
    rw (p.1, p.2) (failed_within (sink c.args.out.now) (sink c.print_moves.new.out)
    (moves_text c.args.play.now.system.log) (picks_text c.args.play.now.picks.items) failed
    (subst (λ (g : List Move). WritesAll (sink c.args.out.now) (sink c.print_moves.new.out) (moves_text g) (Err failed))
    c.moves.ensures c.in_err-print_moves.ensures.content))

pub returns-in_err-print_picks-clause-content : goal.returns-in_err-print_picks-clause-content
returns-in_err-print_picks-clause-content g c =
    let sink = g.O.Sink.written in
    let failed = c.in_err-print_picks.field-0.0 in
    let p = err_from_is_err_and c.from_residual-in_err-print_picks.result c.from_residual-in_err-print_picks.ensures.1 in
    rw (p.1, p.2) (and_then (sink c.args.out.now) (sink c.print_moves.new.out) (sink c.print_picks.new.out)
    (moves_text c.args.play.now.system.log) (picks_text c.args.play.now.picks.items) (Err failed)
    (subst (λ (g : List Move). WritesAll (sink c.args.out.now) (sink c.print_moves.new.out) (moves_text g) (Ok tt))
    c.moves.ensures c.in_ok-print_moves.ensures.content)
    (subst (λ (ps : List Actor). WritesAll (sink c.print_moves.new.out) (sink c.print_picks.new.out) (picks_text ps) (Err failed))
    c.as_slice.ensures.value c.in_err-print_picks.ensures.content))
