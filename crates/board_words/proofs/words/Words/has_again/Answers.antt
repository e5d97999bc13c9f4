use Rattle.std.proofs.Common.{sym, ap, ◌∙◌}
use Rattle.board_words.specs.Seen.{words_left}
use Rattle.board_words.specs.Statements.{stands_again}
use Rattle.board_words.proofs.Standing.{again_first}
use Rattle.board_words.proofs.words.Words.has_again.Goals as goal

pub returns-then-is : goal.returns-then-is
returns-then-is c =
    let text = c.args.text.now in
    c.has.ensures ∙ sym (again_first text c.in-Some.word.now (words_left c.next.new.self) (sym c.is.ensures.value ∙ c.if-is.true))
    ∙ ap (stands_again text) (sym c.in-Some.ensures) ∙ c.loop-word.invariant
