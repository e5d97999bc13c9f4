use Rattle.log_check.proofs.FirstRows.{head, no_letter, no_line, no_number, unknown_letter}
use Rattle.log_check.proofs.heads.read_head.Goals as goal

pub returns-in_err-line : goal.returns-in_err-line
returns-in_err-line c = rw c.from_residual.ensures (no_line c.args.text.now c.in_err-line.ensures)

pub returns-in_err-letter : goal.returns-in_err-letter
returns-in_err-letter c =
    rw c.from_residual-in_err-letter.ensures
    (no_letter c.args.text.now c.in_ok-line.line c.in_ok-line.rest.now c.in_ok-line.ensures c.in_err-letter.ensures.cases)

pub returns-in_err-number : goal.returns-in_err-number
returns-in_err-number c =
    rw c.from_residual-in_err-number.ensures
    (no_number c.args.text.now c.in_ok-line.line c.in_ok-line.rest.now c.in_ok-line.ensures c.in_ok-letter.letter.now c.in_ok-letter.rest.now
    c.in_ok-letter.ensures.cases.0 c.in_err-number.ensures)

pub returns-in_err-actor : goal.returns-in_err-actor
returns-in_err-actor c =
    rw c.from_residual-in_err-actor.ensures
    (unknown_letter c.args.text.now c.in_ok-line.line c.in_ok-line.rest.now c.in_ok-line.ensures c.in_ok-letter.letter.now c.in_ok-letter.rest.now
    c.in_ok-letter.ensures.cases.0 c.in_ok-number.number c.in_ok-number.field-0-1.now c.in_ok-number.ensures c.in_err-actor.ensures)

pub returns : goal.returns
returns c =
    head c.args.text.now c.in_ok-line.line c.in_ok-line.rest.now c.in_ok-line.ensures c.in_ok-letter.letter.now c.in_ok-letter.rest.now
    c.in_ok-letter.ensures.cases.0 c.in_ok-number.number c.in_ok-number.field-0-1.now c.in_ok-number.ensures c.in_ok-actor.actor c.in_ok-actor.ensures
