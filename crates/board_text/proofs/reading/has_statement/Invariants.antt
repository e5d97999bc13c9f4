use Rattle.std.proofs.Common.{◌≡◌, length}
use Rattle.std.specs.List.{list_any}
use Rattle.board_words.specs.TextLines.{text_lines}
use Rattle.board_words.specs.Seen.{lines_left}
use Rattle.board_stated.specs.TextOf.{has_words}
use Rattle.board_text.proofs.reading.has_statement.Given as goal

abbrev pub invariant-loop-line : goal.invariant-loop-line
invariant-loop-line l = list_any has_words (text_lines l.bytes) ≡ list_any has_words (lines_left l.lines)

abbrev pub decreases-loop-line : goal.decreases-loop-line
decreases-loop-line l = length (lines_left l.lines)
