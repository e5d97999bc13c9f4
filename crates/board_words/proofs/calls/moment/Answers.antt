use Rattle.std.proofs.Common.{refl, sym, ◌∙◌}
use Rattle.board_words.specs.Forms as forms
use Rattle.board_words.specs.Seen.{words_left}
use Rattle.board_words.specs.Statements as said
use Rattle.board_words.specs.declared.statements.CallWords.{CallWords}
use Rattle.board_words.specs.declared.statements.CallWords.TheVariants as calls
use Rattle.board_words.proofs.Order.{step, none_before, none_before_all, whole, left, next_number}
use Rattle.board_words.proofs.calls.moment.Goals as goal

pub returns : goal.returns
returns c =
    let words = words_left c.args.words in
    let begun = c.new-places.result in
    let at_form = forms.at forms.moment_number forms.full in
    let form = forms.at forms.part_number at_form in
    let line_takes = c.number.ensures.takes in
    let at_takes = c.number-at.ensures.takes in
    let found = c.full.new.self.found in
    let all = step line_takes at_form refl ∙ step at_takes forms.full tt ∙ sym c.full.ensures in
    let value : CallWords = calls.Moment (record { 0 = c.number.result }) c.number-at.result in
    let wanted : CallWords = calls.Moment (said.line_at 0 words) (said.number_at 1 words) in
    c.give.ensures ∙ whole form begun words found value wanted c.new-places.ensures.found c.new-places.ensures.words all (λ none.
    let two = none_before_all c.number-at.new.self forms.full found c.full.ensures none in
    let one = none_before at_takes two in
    let line = next_number 0 words _ _ (c.number.ensures.value one) c.new-places.ensures.words in
    let moment = next_number 1 words _ _ (c.number-at.ensures.value two) (left 0 words line_takes c.new-places.ensures.words) in
    cc)
