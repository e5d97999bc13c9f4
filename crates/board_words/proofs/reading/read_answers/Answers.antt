use Rattle.std.proofs.Common.{◌≡◌, None, refl, sym, ap, ◌∙◌}
use Rattle.board_words.specs.Forms as forms
use Rattle.board_words.specs.Seen.{words_left}
use Rattle.board_words.specs.Statements as said
use Rattle.board_words.proofs.CallStatements.{outcome_is_ok, outcome_is_err}
use Rattle.board_words.proofs.Order.{step, none_before_all, whole, left, next_number}
use Rattle.board_words.proofs.reading.read_answers.Goals as goal

pub returns-in-Ok-give : goal.returns-in-Ok-give
returns-in-Ok-give c =
    let words = words_left c.args.words in
    let form = forms.at forms.part_number forms.part_form in
    let takes = c.number.ensures.takes in
    let found = c.answers.new.self.found in
    let part = c.part-part.result in
    let after_part = c.part-part.ensures.found ∙ sym c.in-Ok.ensures.found in
    let all = step takes forms.part_form refl ∙ after_part in
    let told = outcome_is_ok _ _ _ (sym c.in-Ok-give.is ∙ (c.give.ensures
    ∙ whole form c.new-places.result words found tt tt c.new-places.ensures.found c.new-places.ensures.words all (λ none. refl))) in
    let none : found ≡ None = (outcome_is_ok _ _ _ (sym c.in-Ok-give.is ∙ c.give.ensures)).0 in
    let one = none_before_all c.number.new.self forms.part_form found (sym after_part) none in
    let dev = next_number 0 words _ _ (c.number.ensures.value one) c.new-places.ensures.words in
    let at_part = left 0 words takes c.new-places.ensures.words in
    let which = c.part-part.ensures.value ∙ ap said.part_at at_part in
    let rest = c.part-part.ensures.words ∙ ap said.after_part at_part in
    let answers = c.in-Ok.ensures.value none ∙ ap (said.answers_of part) rest in
    (told.0, cc)

pub returns-in-Err : goal.returns-in-Err
returns-in-Err c =
    let words = words_left c.args.words in
    let form = forms.at forms.part_number forms.part_form in
    let after_part = c.part-part.ensures.found ∙ sym c.in-Ok.ensures.found in
    let all = step c.number.ensures.takes forms.part_form refl ∙ after_part in
    outcome_is_err _ _ _ (sym c.in-Err.is ∙ (c.give.ensures
    ∙ whole form c.new-places.result words c.answers.new.self.found tt tt c.new-places.ensures.found c.new-places.ensures.words all (λ none. refl)))
