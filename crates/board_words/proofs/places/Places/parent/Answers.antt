use Rattle.std.proofs.Common.{◌≡◌, false, drop, sym, ap, ◌∙◌, arith}
use Rattle.board_words.specs.Forms.{name, parents_form}
use Rattle.board_words.specs.Places.{fault_at}
use Rattle.board_words.specs.Seen.{words_left, are_none}
use Rattle.board_words.specs.Statements.{name_at}
use Rattle.board_words.proofs.Order.{none_before_all}
use Rattle.board_words.proofs.Walks.{one_parent, parent_pair, right_none}
use Rattle.board_words.proofs.places.Places.parent.Goals as goal

pub returns-clause-found : goal.returns-clause-found
returns-clause-found c =
    let some : are_none (words_left c.args.self.now.words) ≡ false = grind arith in
    c.parents.ensures ∙ sym (one_parent c.keyword.ensures c.name-name.ensures.takes some)

pub returns-clause-value : goal.returns-clause-value
returns-clause-value c = λ none.
    let some : are_none (words_left c.args.self.now.words) ≡ false = grind arith in
    let named = none_before_all c.name-name.new.self parents_form c.parents.new.self.found c.parents.ensures none in
    let takes = c.name-name.ensures.takes in
    let first = c.keyword.ensures.words in
    let well = right_none c.keyword.new.self.found (fault_at name (words_left c.keyword.new.self.words)) (sym takes.found ∙ named) in
    let pair = parent_pair (words_left c.args.self.now.words) some (ap (fault_at name) (sym first) ∙ well) in
    let is_name = c.name-name.ensures.value named ∙ ap (name_at 0) first in
    let rest = takes.words ∙ ap (drop 1) first in
    let is_more = c.is_empty-more.ensures ∙ ap are_none rest in
    cc
