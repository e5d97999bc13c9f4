use Rattle.std.proofs.Common.{◌≡◌, length}
use Rattle.board_words.specs.Seen.{words_left}
use Rattle.board_words.specs.Statements.{stands_again}
use Rattle.board_words.proofs.words.Words.has_again.Given as goal

abbrev pub invariant-loop-word : goal.invariant-loop-word
invariant-loop-word l = stands_again l.text (words_left l.self) ≡ stands_again l.fn.text (words_left l.fn.self)

abbrev pub decreases-loop-word : goal.decreases-loop-word
decreases-loop-word l = length (words_left l.self)
