use Rattle.std.proofs.Common.{◌≡◌, ◌||◌, Bool, true, false, cond, codes, refl, sym, ap, ◌∙◌, []}
use Rattle.board_words.specs.Forms as forms
use Rattle.board_words.specs.Seen.{words_left}
use Rattle.board_words.specs.Statements as said
use Rattle.board_words.specs.Versions.{has_runs}
use Rattle.board_words.specs.declared.statements.DeviceWords.{DeviceWords}
use Rattle.board_words.specs.declared.statements.Statement.TheVariants as statements
use Rattle.board_words.proofs.Order.{step, none_before, none_before_all, whole, left, next_number, next_word, EndsWell}
use Rattle.board_words.proofs.parts.device.Goals as goal

ends : (t : Bool) → EndsWell (cond t [] [])
ends true = tt
ends false = tt

pub returns : goal.returns
returns c =
    let words = words_left c.args.words in
    let begun = c.new-places.result in
    let options_form = forms.device_options c.args.version in
    let kind_form = forms.at (forms.one_of (forms.device_kinds c.args.version)) options_form in
    let line_form = forms.at forms.part_number kind_form in
    let form = forms.at forms.part_number line_form in
    let dev_takes = c.number.ensures.takes in
    let line_takes = c.number-2.ensures.takes in
    let kind_takes = c.device_kind-kind.ensures.takes in
    let found = c.device_options.new.self.found in
    let all = step dev_takes line_form refl ∙ step line_takes kind_form refl
    ∙ step kind_takes options_form (ends (has_runs c.args.version)) ∙ sym c.device_options.ensures in
    let value : DeviceWords = record {
      dev = record { 0 = c.number.result };
      line = record { 0 = c.number-2.result };
      kind = c.device_kind-kind.result;
      held = c.has.result;
      forgets = c.has-2.result;
      twice = c.has_either_again.result;
    } in
    c.give.ensures ∙ whole form begun words found (statements.Device value) (statements.Device (said.device_words words))
    c.new-places.ensures.found c.new-places.ensures.words all (λ none.
    let three = none_before_all c.device_kind-kind.new.self options_form found c.device_options.ensures none in
    let two = none_before kind_takes three in
    let one = none_before line_takes two in
    let at_line = left 0 words dev_takes c.new-places.ensures.words in
    let at_kind = left 1 words line_takes at_line in
    let at_options = left 2 words kind_takes at_kind in
    let dev = next_number 0 words _ _ (c.number.ensures.value one) c.new-places.ensures.words in
    let line = next_number 1 words _ _ (c.number-2.ensures.value two) at_line in
    let kind = c.device_kind-kind.ensures.value three ∙ ap said.device_kind (next_word 2 words _ at_kind) in
    let held = c.has.ensures ∙ ap (said.stands (codes "held")) at_options in
    let forgets = c.has-2.ensures ∙ ap (said.stands (codes "forgets")) at_options in
    let twice = c.has_either_again.ensures
    ∙ ap (λ ws. said.stands_again (codes "held") ws || said.stands_again (codes "forgets") ws) at_options in
    let same : value ≡ said.device_words words = cc in
    ap (λ (d : DeviceWords). statements.Device d) same)
