use Rattle.std.proofs.Common.{◌∙◌, ap, length, subst, List, ℕ, arith, Ok}
use Rattle.std.proofs.lemmas.Result.{err_from_is_err_and}
use Rattle.std.specs.List.{flat_map, range_with_len}
use Rattle.irq_io.specs.Whole.{WritesAll}
use Rattle.log_text.specs.LayoutRows.{layout_row_text}
use Rattle.board_report.proofs.Writing.{items_done, items_failed, number_at, numbers_all}
use Rattle.board_report.proofs.printing.print_layout.Goals as goal

pub returns-in_err-write_all-clause-content : goal.returns-in_err-write_all-clause-content
returns-in_err-write_all-clause-content g c =
    let p = err_from_is_err_and c.from_residual.result c.from_residual.ensures.1 in
    rw (p.1, p.2) (items_failed (layout_row_text c.args.board.now) (g.O.Sink.written c.args.out.now) (g.O.Sink.written c.loop-i.out)
    (g.O.Sink.written c.write_all.new.sink) (range_with_len 0 (length c.args.board.now.lines)) c.loop-i.i c.loop-i.i
    c.bytes.result.now c.in_err-write_all.field-0.0 (number_at (length c.args.board.now.lines) c.loop-i.i
    (omega (arith, c.lines_len-i-end.ensures, c.loop-i-test.true))) (c.bytes.ensures.bytes ∙ c.layout_row.ensures)
    c.loop-i.invariant.content c.in_err-write_all.ensures.content)

pub loop-i-preserved : goal.loop-i-preserved
loop-i-preserved g c = record {
  content =
      items_done (layout_row_text c.args.board.now) (g.O.Sink.written c.args.out.now) (g.O.Sink.written c.loop-i.out)
      (g.O.Sink.written c.write_all.new.sink) (range_with_len 0 (length c.args.board.now.lines)) c.loop-i.i
      c.loop-i.i
      c.bytes.result.now (number_at (length c.args.board.now.lines) c.loop-i.i
      (omega (arith, c.lines_len-i-end.ensures, c.loop-i-test.true))) (c.bytes.ensures.bytes ∙ c.layout_row.ensures)
      c.loop-i.invariant.content c.in_ok-write_all.ensures.content;
  faults = c.in_ok-write_all.ensures.cause ∙ c.loop-i.invariant.faults;
}

pub returns-clause-content : goal.returns-clause-content
returns-clause-content g c =
    subst (λ (text : List ℕ). WritesAll (g.O.Sink.written c.args.out.now) (g.O.Sink.written c.loop-i.out) text (Ok tt))
    (ap (flat_map (layout_row_text c.args.board.now)) (numbers_all (length c.args.board.now.lines) c.loop-i.i
    (omega (arith, c.lines_len-i-end.ensures, c.loop-i-test.false)))) c.loop-i.invariant.content
