use Rattle.std.proofs.Common.{sym, ◌∙◌}
use Rattle.board_words.specs.Forms as forms
use Rattle.board_words.specs.Seen.{words_left}
use Rattle.board_words.specs.Statements.{number_at}
use Rattle.board_words.proofs.Order.{step, none_before_all, whole, next_number}
use Rattle.board_words.proofs.parts.sole_number.Goals as goal

pub returns : goal.returns
returns c =
    let words = words_left c.args.words in
    let begun = c.new-places.result in
    let form = forms.at (forms.number c.args.low c.args.high) forms.full in
    let all = step c.number-number.ensures.takes forms.full tt ∙ sym c.full.ensures in
    c.give.ensures
    ∙ whole form begun words c.full.new.self.found c.number-number.result (number_at 0 words) c.new-places.ensures.found c.new-places.ensures.words all (λ none.
    let one = none_before_all c.number-number.new.self forms.full c.full.new.self.found c.full.ensures none in
    next_number 0 words (words_left begun.words) c.number-number.result (c.number-number.ensures.value one) c.new-places.ensures.words)
