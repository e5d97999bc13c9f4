use Rattle.std.proofs.Common.{◌≡◌, false, sym, ap, ◌∙◌}
use Rattle.board_words.specs.Forms.{is_of_later}
use Rattle.board_words.specs.Keywords.{call_text}
use Rattle.board_words.specs.Seen.{words_left}
use Rattle.board_words.specs.declared.statements.Statement.TheVariants as statements
use Rattle.board_words.proofs.CallStatements.{said_call, same_form, outcome_is_ok, outcome_is_err}
use Rattle.board_words.proofs.reading.read_statement.Goals as goal

pub returns-in-Ok-clause-exact : goal.returns-in-Ok-clause-exact
returns-in-Ok-clause-exact c =
    let call = c.in-Some-call_word.call in
    let known : is_of_later c.args.version (call_text call) ≡ false = sym c.is_call_of_later.ensures ∙ c.if-is_call_of_later.false in
    let told = outcome_is_ok _ _ _ (sym c.in-Ok.is ∙ c.read_call.ensures) in
    rw (
      c.in-Some.ensures,
      c.in-Some-call_word.ensures,
      known,
      same_form c.args.version call (words_left c.next.new.self),
      said_call call (words_left c.next.new.self),
    ) (told.0, ap (λ x. statements.Call x) told.1)

pub returns-in-Err-clause-exact : goal.returns-in-Err-clause-exact
returns-in-Err-clause-exact c =
    let call = c.in-Some-call_word.call in
    let known : is_of_later c.args.version (call_text call) ≡ false = sym c.is_call_of_later.ensures ∙ c.if-is_call_of_later.false in
    rw (c.in-Some.ensures, c.in-Some-call_word.ensures, known, same_form c.args.version call (words_left c.next.new.self))
    (outcome_is_err _ _ _ (sym c.in-Err.is ∙ c.read_call.ensures))

pub returns-in-Ok-read_named_part-clause-exact : goal.returns-in-Ok-read_named_part-clause-exact
returns-in-Ok-read_named_part-clause-exact c =
    let known : is_of_later c.args.version c.in-Some.word.now ≡ false = sym c.is_part_of_later.ensures ∙ c.if-is_part_of_later.false in
    rw (c.in-Some.ensures, known) (outcome_is_ok _ _ _ (sym c.in-Ok-read_named_part.is ∙ c.read_named_part.ensures))

pub returns-in-Err-read_named_part-clause-exact : goal.returns-in-Err-read_named_part-clause-exact
returns-in-Err-read_named_part-clause-exact c =
    let known : is_of_later c.args.version c.in-Some.word.now ≡ false = sym c.is_part_of_later.ensures ∙ c.if-is_part_of_later.false in
    rw (c.in-Some.ensures, known) (outcome_is_err _ _ _ (sym c.in-Err-read_named_part.is ∙ c.read_named_part.ensures))
