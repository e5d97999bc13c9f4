use Rattle.std.proofs.Common.{ℕ, List, [], ◌∷◌, ◌++◌, decimal, ap, subst, ◌∙◌}
use Rattle.std.proofs.lemmas.Result.{err_from_is_err_and}
use Rattle.irq_io.specs.Whole.{WritesAll}
use Rattle.log_text.specs.Rows.{entry_text}
use Rattle.irq_explore.proofs.Writing.{length_done, length_failed}
use Rattle.irq_explore.proofs.printed_survey.print_came.Goals as goal

pub returns-in_err-write_all-clause-content : goal.returns-in_err-write_all-clause-content
returns-in_err-write_all-clause-content g c =
    let sink = g.O.Sink.written in
    let is = c.bytes.ensures.bytes ∙ (c.push.ensures ∙ ap (λ (xs : List ℕ). xs ++ 32 ∷ [])
    (c.push_number.ensures.text ∙ ap (λ (xs : List ℕ). xs ++ decimal c.args.came.len) c.clear.ensures)) in
    let p = err_from_is_err_and c.from_residual.result c.from_residual.ensures.1 in
    rw (p.1, p.2) (length_failed (sink c.args.out.now) (sink c.write_all.new.sink) (sink c.write_all.new.sink) c.args.came.len c.bytes.result.now
    (entry_text c.args.line c.args.came.entry) is c.in_err-write_all.field-0.0 c.in_err-write_all.ensures.content)

pub returns-clause-content : goal.returns-clause-content
returns-clause-content g c =
    let sink = g.O.Sink.written in
    let is = c.bytes.ensures.bytes ∙ (c.push.ensures ∙ ap (λ (xs : List ℕ). xs ++ 32 ∷ [])
    (c.push_number.ensures.text ∙ ap (λ (xs : List ℕ). xs ++ decimal c.args.came.len) c.clear.ensures)) in
    length_done (sink c.args.out.now) (sink c.write_all.new.sink) (sink c.write_all-2.new.sink) c.args.came.len c.bytes.result.now
    (entry_text c.args.line c.args.came.entry) is c.write_all-2.result c.in_ok-write_all.ensures.content
    (subst (λ (xs : List ℕ). WritesAll (sink c.write_all.new.sink) (sink c.write_all-2.new.sink) xs c.write_all-2.result)
    (c.bytes-2.ensures.bytes ∙ c.entry_row.ensures.text) c.write_all-2.ensures.content)
