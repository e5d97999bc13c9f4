use Rattle.std.proofs.Common.{◌≡◌, ℕ, ◌<◌, false, get_or}
use Rattle.board_words.specs.Ends.{starts_word}
use Rattle.board_words.proofs.words.word_start.Given as goal

abbrev pub invariant-loop-i : goal.invariant-loop-i
invariant-loop-i l = (k : ℕ) → k < l.i → starts_word (get_or l.line k 0) ≡ false
