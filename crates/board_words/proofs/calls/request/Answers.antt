use Rattle.std.proofs.Common.{◌||◌, codes, sym, ap, ◌∙◌}
use Rattle.std.specs.List.{flat_map}
use Rattle.board_words.specs.Forms as forms
use Rattle.board_words.specs.Seen.{words_left}
use Rattle.board_words.specs.Statements as said
use Rattle.board_words.specs.declared.statements.CallWords.{CallWords}
use Rattle.board_words.specs.declared.statements.CallWords.TheVariants as calls
use Rattle.board_words.proofs.Order.{step, none_before_all, whole, left, next_number}
use Rattle.board_words.proofs.calls.request.Goals as goal

pub returns : goal.returns
returns c =
    let words = words_left c.args.words in
    let begun = c.new-places.result in
    let flags_form = flat_map (forms.one_of forms.request_flags) in
    let form = forms.at forms.part_number flags_form in
    let takes = c.number.ensures.takes in
    let found = c.flags.new.self.found in
    let all = step takes flags_form tt ∙ sym c.flags.ensures in
    let value : CallWords = calls.Request (record { 0 = c.number.result })
    (record { shared = c.has.result; oneshot = c.has-2.result; noauto = c.has-3.result })
    c.has_one_again-twice.result in
    c.give.ensures ∙ whole form begun words found value (said.request_words words) c.new-places.ensures.found c.new-places.ensures.words all (λ none.
    let one = none_before_all c.number.new.self flags_form found c.flags.ensures none in
    let dev = next_number 0 words _ _ (c.number.ensures.value one) c.new-places.ensures.words in
    let flags = left 0 words takes c.new-places.ensures.words in
    let shared = c.has.ensures ∙ ap (said.stands (codes "shared")) flags in
    let oneshot = c.has-2.ensures ∙ ap (said.stands (codes "oneshot")) flags in
    let noauto = c.has-3.ensures ∙ ap (said.stands (codes "noauto")) flags in
    let twice = c.has_one_again-twice.ensures
    ∙ ap (λ ws. said.stands_again (codes "shared") ws || (said.stands_again (codes "oneshot") ws || said.stands_again (codes "noauto") ws)) flags in
    cc)
