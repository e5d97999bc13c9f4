use Rattle.std.proofs.Common.{ℕ, sym, ◌∙◌, subst}
use Rattle.board_words.specs.Forms as forms
use Rattle.board_words.specs.Places.{Takes}
use Rattle.board_words.specs.Seen.{words_left}
use Rattle.board_words.specs.Statements as said
use Rattle.board_words.specs.declared.statements.Statement.{Statement}
use Rattle.board_words.specs.declared.statements.Statement.TheVariants as statements
use Rattle.board_words.proofs.Order.{none_before, none_before_all, whole, left, next_number}
use Rattle.board_words.proofs.Spurious.{spurious_taken}
use Rattle.board_words.proofs.parts.spurious.Goals as goal

pub returns : goal.returns
returns c =
    let words = words_left c.args.words in
    let begun = c.new-places.result in
    let window = c.number-window.result in
    let P : ℕ → Type 0 = λ n. Takes (forms.number 0 n) c.number-window.new.self c.number-limit.new.self in
    let limit_takes = subst P c.saturating_sub.ensures c.number-limit.ensures.takes in
    let found = c.full.new.self.found in
    let all = spurious_taken window c.number-window.ensures.takes limit_takes c.new-places.ensures.found c.number-window.ensures.value ∙ sym c.full.ensures in
    let value : Statement = statements.Spurious window c.number-limit.result in
    let wanted : Statement = statements.Spurious (said.number_at 0 words) (said.number_at 1 words) in
    c.give.ensures ∙ whole forms.spurious_form begun words found value wanted c.new-places.ensures.found c.new-places.ensures.words all (λ none.
    let two = none_before_all c.number-limit.new.self forms.full found c.full.ensures none in
    let one = none_before limit_takes two in
    let is_window = next_number 0 words _ _ (c.number-window.ensures.value one) c.new-places.ensures.words in
    let is_limit = next_number 1 words _ _ (c.number-limit.ensures.value two) (left 0 words c.number-window.ensures.takes c.new-places.ensures.words) in
    cc)
