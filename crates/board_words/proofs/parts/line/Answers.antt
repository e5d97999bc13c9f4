use Rattle.std.proofs.Common.{◌≡◌, ◌||◌, codes, refl, sym, ap, ◌∙◌}
use Rattle.board_words.specs.Forms as forms
use Rattle.board_words.specs.Seen.{words_left}
use Rattle.board_words.specs.Statements as said
use Rattle.board_words.specs.declared.statements.LineWords.{LineWords}
use Rattle.board_words.specs.declared.statements.Statement.TheVariants as statements
use Rattle.board_words.proofs.Order.{step, none_before, none_before_all, whole, left, next_number, next_name}
use Rattle.board_words.proofs.parts.line.Goals as goal

pub returns : goal.returns
returns c =
    let words = words_left c.args.words in
    let begun = c.new-places.result in
    let hw_form = forms.at forms.mask_number forms.line_options in
    let name_form = forms.at forms.name hw_form in
    let form = forms.at forms.part_number name_form in
    let line_takes = c.number.ensures.takes in
    let name_takes = c.name-domain.ensures.takes in
    let hw_takes = c.number-hw.ensures.takes in
    let found = c.options-mask.new.self.found in
    let all = step line_takes name_form refl ∙ step name_takes hw_form refl ∙ step hw_takes forms.line_options tt ∙ sym c.options-mask.ensures.found in
    let value : LineWords = record {
      line = record { 0 = c.number.result };
      domain = c.name-domain.result;
      hw = c.number-hw.result;
      unlazy = c.has.result;
      later = c.has-2.result;
      mask = c.options-mask.result;
      twice = c.has_one_again.result;
    } in
    c.give.ensures ∙ whole form begun words found (statements.Line value) (statements.Line (said.line_words words))
    c.new-places.ensures.found c.new-places.ensures.words all (λ none.
    let three = none_before_all c.number-hw.new.self forms.line_options found c.options-mask.ensures.found none in
    let two = none_before hw_takes three in
    let one = none_before name_takes two in
    let at_name = left 0 words line_takes c.new-places.ensures.words in
    let at_hw = left 1 words name_takes at_name in
    let at_options = left 2 words hw_takes at_hw in
    let line = next_number 0 words _ _ (c.number.ensures.value one) c.new-places.ensures.words in
    let domain = next_name 1 words _ _ (c.name-domain.ensures.value two) at_name in
    let hw = next_number 2 words _ _ (c.number-hw.ensures.value three) at_hw in
    let mask = c.options-mask.ensures.value none ∙ ap said.mask_after at_options in
    let unlazy = c.has.ensures ∙ ap (said.stands (codes "unlazy")) at_options in
    let later = c.has-2.ensures ∙ ap (said.stands (codes "later")) at_options in
    let twice = c.has_one_again.ensures
    ∙ ap (λ ws. said.stands_again (codes "unlazy") ws || (said.stands_again (codes "later") ws || said.stands_again (codes "mask") ws)) at_options in
    let same : value ≡ said.line_words words = cc in
    ap (λ (l : LineWords). statements.Line l) same)
