use Rattle.std.proofs.Common.{sym, ◌∙◌}
use Rattle.std.proofs.lemmas.Result.{err_from_is_err_and}
use Rattle.board_words.specs.Keywords.{part_text}
use Rattle.board_words.specs.Seen.{words_left}
use Rattle.board_words.specs.Statements.{statement_after}
use Rattle.board_words.specs.declared.keywords.PartWord.TheVariants as parts
use Rattle.board_words.specs.declared.statements.Statement.TheVariants as statements
use Rattle.board_words.proofs.Order.{outcome_ok, outcome_err}
use Rattle.board_words.proofs.parts.read_part.Goals as goal

pub returns-in_err-sole_number-in-Board : goal.returns-in_err-sole_number-in-Board
returns-in_err-sole_number-in-Board c =
    let p = err_from_is_err_and c.from_residual.result c.from_residual.ensures.1 in
    rw (c.in-Board.is, p.1, p.2) (outcome_err _ _ (statement_after (part_text parts.Board) (words_left c.args.words)) _
    (sym c.in_err-sole_number-in-Board.was ∙ c.sole_number.ensures))

pub returns-in_err-sole_number-in-Cpus : goal.returns-in_err-sole_number-in-Cpus
returns-in_err-sole_number-in-Cpus c =
    let p = err_from_is_err_and c.from_residual-in_err-sole_number-in-Cpus.result c.from_residual-in_err-sole_number-in-Cpus.ensures.1 in
    rw (c.in-Cpus.is, p.1, p.2) (outcome_err _ _ (statement_after (part_text parts.Cpus) (words_left c.args.words)) _
    (sym c.in_err-sole_number-in-Cpus.was ∙ c.sole_number-in-Cpus.ensures))

pub returns-in_err-sole_number-in-Log : goal.returns-in_err-sole_number-in-Log
returns-in_err-sole_number-in-Log c =
    let p = err_from_is_err_and c.from_residual-in_err-sole_number-in-Log.result c.from_residual-in_err-sole_number-in-Log.ensures.1 in
    rw (c.in-Log.is, p.1, p.2) (outcome_err _ _ (statement_after (part_text parts.Log) (words_left c.args.words)) _
    (sym c.in_err-sole_number-in-Log.was ∙ c.sole_number-in-Log.ensures))

pub returns-in_err-driver-in-Driver : goal.returns-in_err-driver-in-Driver
returns-in_err-driver-in-Driver c =
    let p = err_from_is_err_and c.from_residual-in_err-driver-in-Driver.result c.from_residual-in_err-driver-in-Driver.ensures.1 in
    rw (c.in-Driver.is, p.1, p.2) (outcome_err _ _ (statement_after (part_text parts.Driver) (words_left c.args.words))
    _ (sym c.in_err-driver-in-Driver.was ∙ c.sole_number-in-Driver.ensures))

pub returns-in_ok-sole_number-in-Board : goal.returns-in_ok-sole_number-in-Board
returns-in_ok-sole_number-in-Board c = rw c.in-Board.is
    (outcome_ok (λ n. statements.Board n) _ _ _ (sym c.in_ok-sole_number-in-Board.was ∙ c.sole_number.ensures))

pub returns-in_ok-sole_number-in-Cpus : goal.returns-in_ok-sole_number-in-Cpus
returns-in_ok-sole_number-in-Cpus c = rw c.in-Cpus.is (outcome_ok (λ n. statements.Cpus n) _ _ _
    (sym c.in_ok-sole_number-in-Cpus.was ∙ c.sole_number-in-Cpus.ensures))

pub returns-in_ok-sole_number-in-Log : goal.returns-in_ok-sole_number-in-Log
returns-in_ok-sole_number-in-Log c = rw c.in-Log.is (outcome_ok (λ n. statements.Log n) _ _ _
    (sym c.in_ok-sole_number-in-Log.was ∙ c.sole_number-in-Log.ensures))

pub returns-in_ok-driver-in-Driver : goal.returns-in_ok-driver-in-Driver
returns-in_ok-driver-in-Driver c = rw c.in-Driver.is (outcome_ok (λ n. statements.Driver (record { 0 = n })) _ _ _
    (sym c.in_ok-driver-in-Driver.was ∙ c.sole_number-in-Driver.ensures))
