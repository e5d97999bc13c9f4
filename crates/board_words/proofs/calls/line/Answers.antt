use Rattle.std.proofs.Common.{sym, ◌∙◌}
use Rattle.std.proofs.lemmas.Result.{err_from_is_err_and}
use Rattle.board_words.specs.Seen.{words_left}
use Rattle.board_words.specs.Statements.{line_at}
use Rattle.board_words.proofs.Order.{outcome_err}
use Rattle.board_words.proofs.calls.line.Goals as goal

pub returns-in_err-number : goal.returns-in_err-number
returns-in_err-number c =
    let p = err_from_is_err_and c.from_residual.result c.from_residual.ensures.1 in
    rw (p.1, p.2) (outcome_err _ _ (line_at 0 (words_left c.args.words)) _ (sym c.in_err-number.was ∙ c.sole_number.ensures))
