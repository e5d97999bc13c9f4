use Rattle.std.proofs.Common.{ℕ, ◌+◌, ◌-◌, ◌++◌, [], ◌∷◌, length, take, drop, length-append, sym, ap, subst, ◌∙◌}
use Rattle.irq_check.proofs.Cutting.{IsCutTo, bare_is, ended_is, last_is_dashes, row_is_dashes, row_cut}
use Rattle.irq_check.proofs.Skipping.{cut_on}
use Rattle.irq_check.proofs.parts.cut_input.Goals as goal

pub returns-then-is_dashes : goal.returns-then-is_dashes
returns-then-is_dashes c =
    let start = c.in-Some.start in
    let rest = take (length c.loop-start.rest.now - start) (drop start c.loop-start.rest.now) in
    let cut = cut_on c.args.input.now c.loop-start.rest.now c.loop-start.before c.loop-start.invariant start c.in-Some.ensures in
    last_is_dashes c.args.input.now rest (c.loop-start.before + start) cut c.in_default-cut_row.ensures.rows.0
    (bare_is rest c.in_default-cut_row.ensures.rows.1 ∙ (sym c.is_dashes.ensures ∙ c.if-is_dashes.true))

pub returns-then-is_dashes-2 : goal.returns-then-is_dashes-2
returns-then-is_dashes-2 c =
    let start = c.in-Some.start in
    let rest = take (length c.loop-start.rest.now - start) (drop start c.loop-start.rest.now) in
    let line = c.in-Some-cut_row.line.now in
    let cut = cut_on c.args.input.now c.loop-start.rest.now c.loop-start.before c.loop-start.invariant start c.in-Some.ensures in
    row_is_dashes c.args.input.now rest (c.loop-start.before + start) cut (line ++ 10 ∷ []) c.in-Some-cut_row.after.now
    c.in-Some-cut_row.ensures.rows (ended_is line ∙ (sym c.is_dashes-in-Some.ensures ∙ c.if-is_dashes-2.true))

pub loop-start-preserved : goal.loop-start-preserved
loop-start-preserved c =
    let start = c.in-Some.start in
    let rest = take (length c.loop-start.rest.now - start) (drop start c.loop-start.rest.now) in
    let line = c.in-Some-cut_row.line.now in
    let cut = cut_on c.args.input.now c.loop-start.rest.now c.loop-start.before c.loop-start.invariant start c.in-Some.ensures in
    subst (λ (n : ℕ). IsCutTo c.args.input.now c.in-Some-cut_row.after.now n)
    (ap (λ (n : ℕ). c.loop-start.before + start + n) (length-append line (10 ∷ [])))
    (row_cut c.args.input.now rest (c.loop-start.before + start) cut (line ++ 10 ∷ []) c.in-Some-cut_row.after.now
    c.in-Some-cut_row.ensures.rows (ended_is line ∙ (sym c.is_dashes-in-Some.ensures ∙ c.if-is_dashes-2.false)))
