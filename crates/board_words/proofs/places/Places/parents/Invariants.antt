use Rattle.std.proofs.Common.{◌≡◌, length}
use Rattle.board_words.specs.Forms.{parents_form}
use Rattle.board_words.specs.Places.{in_all}
use Rattle.board_words.specs.Seen.{words_left}
use Rattle.board_words.proofs.places.Places.parents.Given as goal

abbrev pub invariant-loop-self : goal.invariant-loop-self
invariant-loop-self l = in_all l.self parents_form ≡ in_all l.fn.self parents_form

abbrev pub decreases-loop-self : goal.decreases-loop-self
decreases-loop-self l = length (words_left l.self.words)
