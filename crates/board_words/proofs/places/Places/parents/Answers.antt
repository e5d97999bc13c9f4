use Rattle.std.proofs.Common.{◌≡◌, false, sym, ◌∙◌, arith}
use Rattle.board_words.specs.Seen.{words_left, are_none}
use Rattle.board_words.proofs.Walks.{one_parent}
use Rattle.board_words.proofs.places.Places.parents.Goals as goal

pub loop-self-preserved : goal.loop-self-preserved
loop-self-preserved c =
    let some : are_none (words_left c.loop-self.self.words) ≡ false = grind arith in
    sym (one_parent c.keyword.ensures c.name.ensures.takes some) ∙ c.loop-self.invariant
