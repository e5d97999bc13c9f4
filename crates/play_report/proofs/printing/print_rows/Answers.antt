use Rattle.std.proofs.Common.{All, ◌∙◌, subst, sym}
use Rattle.std.specs.List.{flat_map}
use Rattle.std.proofs.lemmas.List.Elements.{All-drop}
use Rattle.std.proofs.lemmas.Result.{err_from_is_err_and}
use Rattle.play_report.specs.Printing.{StepHasRow}
use Rattle.play_report.proofs.RowByRow.{first_text, row_failed, row_printed}
use Rattle.play_report.proofs.printing.print_rows.Goals as goal

pub loop-step-preserved : goal.loop-step-preserved
loop-step-preserved g c =
    let sink = g.O.Sink.written in
    let rows = g.R.StepRows in
    let left = rows.left c.loop-step.steps in
    let after = rows.left c.next.new.self in
    let row = c.row_of.result.now in
    record {
      printing =
          row_printed (sink c.args.out.now) (sink c.loop-step.out) (sink c.write_all.new.sink)
          (flat_map rows.text (rows.left c.args.steps.now)) (flat_map rows.text left) row (flat_map rows.text after)
          (first_text rows.text left after c.in-Some.step row (sym c.in-Some.ensures.first) c.in-Some.ensures.rest c.row_of.ensures)
          c.loop-step.invariant.printing c.in_ok-write_all.ensures.content;
      rows = subst (All (StepHasRow rows.told)) (sym c.in-Some.ensures.rest) (All-drop (StepHasRow rows.told) 1 left c.loop-step.invariant.rows);
      faults = c.in_ok-write_all.ensures.cause ∙ c.loop-step.invariant.faults;
    }

pub returns-in_err-write_all-clause-content : goal.returns-in_err-write_all-clause-content
returns-in_err-write_all-clause-content g c =
    let p = err_from_is_err_and c.from_residual.result c.from_residual.ensures.1 in
    let sink = g.O.Sink.written in
    let rows = g.R.StepRows in
    let left = rows.left c.loop-step.steps in
    let after = rows.left c.next.new.self in
    let row = c.row_of.result.now in
    rw (p.1, p.2) (row_failed (sink c.args.out.now) (sink c.loop-step.out) (sink c.write_all.new.sink)
    (flat_map rows.text (rows.left c.args.steps.now)) (flat_map rows.text left) row (flat_map rows.text after)
    (first_text rows.text left after c.in-Some.step row (sym c.in-Some.ensures.first) c.in-Some.ensures.rest c.row_of.ensures)
    c.loop-step.invariant.printing c.in_err-write_all.field-0.0 c.in_err-write_all.ensures.content)
