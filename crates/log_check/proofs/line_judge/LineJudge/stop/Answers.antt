use Rattle.std.proofs.Common.{◌++◌, ◌∷◌, [], sym, ◌∙◌}
use Rattle.log_read.specs.LogOf.{rows_of}
use Rattle.log_check.proofs.FirstRows.{unallowed_first, unfed_on}
use Rattle.log_check.proofs.line_judge.LineJudge.stop.Goals as goal

pub returns-in_err-row : goal.returns-in_err-row
returns-in_err-row g c =
    rw c.from_residual.ensures (unfed_on c.args.board.now c.args.text.now c.in_err-row.ensures.rows.0 c.in_err-row.ensures.rows.1)

pub returns-then-not-may_have : goal.returns-then-not-may_have
returns-then-not-may_have g c =
    unallowed_first c.args.board.now c.args.text.now (c.in_ok-row.row.now ++ 10 ∷ []) (rows_of c.in_ok-row.after.now) c.in_ok-said.field-0-0
    c.in_ok-said.said c.in_ok-row.ensures.rows c.in_ok-said.ensures (sym c.may_have.ensures ∙ c.if-not-may_have.true)
