use Rattle.std.proofs.lemmas.Result.{err_from_is_err_and}
use Rattle.log_text.specs.Rows.{entry_text}
use Rattle.board_report.proofs.Writing.{items_failed}
use Rattle.irq_explore.proofs.ByIndex.{at_index}
use Rattle.irq_explore.proofs.printing.print_log.Goals as goal

pub returns-in_err-write_all-clause-content : goal.returns-in_err-write_all-clause-content
returns-in_err-write_all-clause-content g c =
    let sink = g.O.Sink.written in
    let p = err_from_is_err_and c.from_residual.result c.from_residual.ensures.1 in
    rw (p.1, p.2) (items_failed (entry_text c.args.line) (sink c.args.out.now) (sink c.loop-i.out) (sink c.write_all.new.sink)
    c.args.entries.now c.loop-i.i _ c.row_of.result.now c.in_err-write_all.field-0.0 (at_index c.args.entries.now c.loop-i.i _ c.loop-i-test.true)
    c.row_of.ensures c.loop-i.invariant.content c.in_err-write_all.ensures.content)
