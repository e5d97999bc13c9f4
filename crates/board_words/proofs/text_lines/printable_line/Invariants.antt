use Rattle.std.proofs.Common.{◌≡◌, ℕ, ◌<◌, false, get_or}
use Rattle.board_words.specs.Ends.{ends_printable}
use Rattle.board_words.proofs.text_lines.printable_line.Given as goal

abbrev pub invariant-loop-i : goal.invariant-loop-i
invariant-loop-i l = (k : ℕ) → k < l.i → ends_printable (get_or l.text k 0) ≡ false
