use Rattle.std.proofs.Common.{◌≡◌, drop, get_or, [], refl, sym, ap, ◌∙◌}
use Rattle.board_words.specs.Forms as forms
use Rattle.board_words.specs.Places.{map_kind, after_map}
use Rattle.board_words.specs.Seen.{words_left}
use Rattle.board_words.specs.Statements as said
use Rattle.board_words.specs.declared.statements.DomainWords.{DomainWords}
use Rattle.board_words.specs.declared.statements.Statement.TheVariants as statements
use Rattle.board_words.proofs.Domains.{domain_by, domain_is}
use Rattle.board_words.proofs.Order.{step, none_before, none_before_all, whole, left, next_name}
use Rattle.board_words.proofs.parts.domain.Goals as goal

pub returns : goal.returns
returns c =
    let words = words_left c.args.words in
    let begun = c.new-places.result in
    let named = c.name-name.new.self in
    let map_form = forms.map_form c.args.version in
    let form = forms.at forms.name map_form in
    let name_takes = c.name-name.ensures.takes in
    let chip_takes = c.controller_kind-kind.ensures.takes in
    let found = c.parent-parent.new.self.found in
    let after_name = c.map-map.ensures.found c.args.version ∙ step chip_takes forms.parents_form tt ∙ sym c.parent-parent.ensures.found in
    let all = step name_takes map_form refl ∙ after_name in
    let value : DomainWords = record {
      name = c.name-name.result;
      map = c.map-map.result;
      kind = c.controller_kind-kind.result;
      parent = c.parent-parent.result.0;
      twice = c.parent-parent.result.1;
    } in
    c.give.ensures ∙ whole form begun words found (statements.Domain value)
    (statements.Domain (said.domain_words words)) c.new-places.ensures.found c.new-places.ensures.words all (λ none.
    let three = none_before_all c.controller_kind-kind.new.self forms.parents_form found c.parent-parent.ensures.found none in
    let two = none_before chip_takes three in
    let one = none_before_all named map_form found (sym after_name) none in
    let name = next_name 0 words _ _ (c.name-name.ensures.value one) c.new-places.ensures.words in
    let at_map = left 0 words name_takes c.new-places.ensures.words in
    let map = c.map-map.ensures.value two ∙ ap map_kind at_map in
    let rest = c.map-map.ensures.words two ∙ ap after_map at_map in
    let kind = c.controller_kind-kind.ensures.value three ∙ ap (λ ws. said.controller_kind (get_or ws 0 [])) rest in
    let behind = chip_takes.words ∙ ap (drop 1) rest in
    let parents = c.parent-parent.ensures.value none ∙ ap (λ ws. (said.parent_name ws, said.has_more_parents ws)) behind in
    let parent = ap (λ p. p.0) parents in
    let twice = ap (λ p. p.1) parents in
    let same : value ≡ domain_by words = cc in
    ap (λ (d : DomainWords). statements.Domain d) (same ∙ sym (domain_is words)))
