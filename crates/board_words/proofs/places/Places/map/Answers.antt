use Rattle.std.proofs.Common.{refl, sym, ◌∙◌}
use Rattle.board_words.proofs.Walks.{linear_taken}
use Rattle.board_words.proofs.places.Places.map.Goals as goal

pub returns-then-is-clause-found : goal.returns-then-is-clause-found
returns-then-is-clause-found c = λ version. linear_taken version c.args.self.now c.in-Some.word.now c.number.ensures.takes refl
    c.in-Some.ensures (sym c.is.ensures.value ∙ c.if-is.true)
