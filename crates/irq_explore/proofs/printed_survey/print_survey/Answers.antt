use Rattle.std.proofs.Common.{ℕ, Ok, Err, List, ◌++◌, subst, ◌∙◌}
use Rattle.std.proofs.lemmas.Result.{err_from_is_err_and}
use Rattle.std.specs.List.{flat_map}
use Rattle.irq_io.specs.Whole.{WritesAll}
use Rattle.line_survey.specs.declared.survey.EntryRow.{EntryRow}
use Rattle.line_survey.specs.declared.survey.RestRow.{RestRow}
use Rattle.board_report.proofs.Writing.{and_then, failed_within}
use Rattle.irq_explore.specs.SurveyTexts.{came_text, rest_text, totals_text}
use Rattle.irq_explore.proofs.printed_survey.print_survey.Goals as goal

pub returns-in_err-write_all-clause-content : goal.returns-in_err-write_all-clause-content
returns-in_err-write_all-clause-content g c =
    let sink = g.O.Sink.written in
    let v = c.args.survey.now in
    let rests = flat_map (rest_text c.args.line) v.rests.items in
    let rows = flat_map (came_text c.args.line) v.rows.items in
    let failed = c.in_err-write_all.field-0.0 in
    let p = err_from_is_err_and c.from_residual.result c.from_residual.ensures.1 in
    rw (p.1, p.2) (failed_within (sink c.args.out.now) (sink c.write_all.new.sink) (totals_text c.args.line v ++ rests) rows failed
    (failed_within (sink c.args.out.now) (sink c.write_all.new.sink) (totals_text c.args.line v) rests failed
    (subst (λ (xs : List ℕ). WritesAll (sink c.args.out.now) (sink c.write_all.new.sink) xs (Err failed))
    (c.bytes.ensures.bytes ∙ c.totals_row.ensures) c.in_err-write_all.ensures.content)))

pub returns-in_err-print_rests-clause-content : goal.returns-in_err-print_rests-clause-content
returns-in_err-print_rests-clause-content g c =
    let sink = g.O.Sink.written in
    let v = c.args.survey.now in
    let rests = flat_map (rest_text c.args.line) v.rests.items in
    let rows = flat_map (came_text c.args.line) v.rows.items in
    let failed = c.in_err-print_rests.field-0.0 in
    let p = err_from_is_err_and c.from_residual-in_err-print_rests.result c.from_residual-in_err-print_rests.ensures.1 in
    rw (p.1, p.2) (failed_within (sink c.args.out.now) (sink c.print_rests.new.out) (totals_text c.args.line v ++ rests) rows failed
    (and_then (sink c.args.out.now) (sink c.write_all.new.sink) (sink c.print_rests.new.out) (totals_text c.args.line v) rests (Err failed)
    (subst (λ (xs : List ℕ). WritesAll (sink c.args.out.now) (sink c.write_all.new.sink) xs (Ok tt))
    (c.bytes.ensures.bytes ∙ c.totals_row.ensures) c.in_ok-write_all.ensures.content)
    (subst (λ (xs : List RestRow). WritesAll (sink c.write_all.new.sink) (sink c.print_rests.new.out) (flat_map (rest_text c.args.line) xs) (Err failed))
    c.as_slice.ensures.value c.in_err-print_rests.ensures.content)))

pub returns-clause-content : goal.returns-clause-content
returns-clause-content g c =
    let sink = g.O.Sink.written in
    let v = c.args.survey.now in
    let end = c.print_rows.result in
    let rests = flat_map (rest_text c.args.line) v.rests.items in
    let rows = flat_map (came_text c.args.line) v.rows.items in
    and_then (sink c.args.out.now) (sink c.print_rests.new.out) (sink c.print_rows.new.out) (totals_text c.args.line v ++ rests) rows end
    (and_then (sink c.args.out.now) (sink c.write_all.new.sink) (sink c.print_rests.new.out) (totals_text c.args.line v) rests (Ok tt)
    (subst (λ (xs : List ℕ). WritesAll (sink c.args.out.now) (sink c.write_all.new.sink) xs (Ok tt))
    (c.bytes.ensures.bytes ∙ c.totals_row.ensures) c.in_ok-write_all.ensures.content)
    (subst (λ (xs : List RestRow). WritesAll (sink c.write_all.new.sink) (sink c.print_rests.new.out) (flat_map (rest_text c.args.line) xs) (Ok tt))
    c.as_slice.ensures.value c.in_ok-print_rests.ensures.content))
    (subst (λ (xs : List EntryRow). WritesAll (sink c.print_rests.new.out) (sink c.print_rows.new.out) (flat_map (came_text c.args.line) xs) end)
    c.as_slice-2.ensures.value c.print_rows.ensures.content)
