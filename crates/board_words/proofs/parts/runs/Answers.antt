use Rattle.std.proofs.Common.{sym, ◌∙◌}
use Rattle.std.proofs.lemmas.Result.{err_from_is_err_and}
use Rattle.board_words.specs.Seen.{words_left}
use Rattle.board_words.specs.Statements as said
use Rattle.board_words.specs.declared.statements.Statement.TheVariants as statements
use Rattle.board_words.proofs.Order.{outcome_err}
use Rattle.board_words.proofs.parts.runs.Goals as goal

pub returns-in_err-sole_number : goal.returns-in_err-sole_number
returns-in_err-sole_number c =
    let p = err_from_is_err_and c.from_residual.result c.from_residual.ensures.1 in
    rw (p.1, p.2) (outcome_err _ _ (statements.Runs (said.dev_at 0 (words_left c.args.words)) c.args.part) _
    (sym c.in_err-sole_number.was ∙ c.sole_number.ensures))
