use Rattle.std.proofs.Common.{sym, ap, ◌∙◌, subst, ℕ, List, arith, Ok}
use Rattle.std.specs.List.{flat_map}
use Rattle.std.proofs.lemmas.Result.{err_from_is_err_and}
use Rattle.std.proofs.lemmas.List.{take_all}
use Rattle.irq_io.specs.Whole.{WritesAll}
use Rattle.log_text.specs.EntryWords.{IsPrintable}
use Rattle.log_text.specs.Rows.{entry_text}
use Rattle.board_report.proofs.Writing.{items_done, items_failed}
use Rattle.irq_run.proofs.Rows.{all_at}
use Rattle.irq_run.proofs.printing.print_history.Goals as goal

pub row_of-row-requires : goal.row_of-row-requires
row_of-row-requires g c = all_at IsPrintable c.args.history.now.entries c.loop-i.i c.in-Some.entry c.requires (sym c.in-Some.ensures)

pub returns-in_err-write_all-clause-content : goal.returns-in_err-write_all-clause-content
returns-in_err-write_all-clause-content g c =
    let sink = g.O.Sink.written in
    let p = err_from_is_err_and c.from_residual.result c.from_residual.ensures.1 in
    rw (p.1, p.2) (items_failed (entry_text c.args.line) (sink c.args.out.now) (sink c.loop-i.out) (sink c.write_all.new.sink)
    c.args.history.now.entries c.loop-i.i c.in-Some.entry c.row_of-row.result.now c.in_err-write_all.field-0.0
    (sym c.in-Some.ensures) c.row_of-row.ensures c.loop-i.invariant.content c.in_err-write_all.ensures.content)

pub loop-i-preserved : goal.loop-i-preserved
loop-i-preserved g c =
    let sink = g.O.Sink.written in
    record {
      content =
          items_done (entry_text c.args.line) (sink c.args.out.now) (sink c.loop-i.out) (sink c.write_all.new.sink)
          c.args.history.now.entries c.loop-i.i c.in-Some.entry c.row_of-row.result.now
          (sym c.in-Some.ensures) c.row_of-row.ensures c.loop-i.invariant.content c.in_ok-write_all.ensures.content;
      faults = c.in_ok-write_all.ensures.cause ∙ c.loop-i.invariant.faults;
    }

pub returns-clause-content : goal.returns-clause-content
returns-clause-content g c =
    let sink = g.O.Sink.written in
    subst (λ (text : List ℕ). WritesAll (sink c.args.out.now) (sink c.loop-i.out) text (Ok tt))
    (ap (flat_map (entry_text c.args.line)) (take_all c.loop-i.i c.args.history.now.entries
    (omega (arith, c.len-i-end.ensures, c.loop-i-test.false)))) c.loop-i.invariant.content
