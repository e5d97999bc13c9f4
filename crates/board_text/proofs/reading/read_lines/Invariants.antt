use Rattle.std.proofs.Common.{length}
use Rattle.board_words.specs.TextLines.{text_lines}
use Rattle.board_text.proofs.LinesRead.{ReadSoFar}
use Rattle.board_text.proofs.reading.read_lines.Given as goal

abbrev pub invariant-loop-rest : goal.invariant-loop-rest
invariant-loop-rest l = ReadSoFar (text_lines l.bytes) (text_lines l.rest) l.at l.reader

abbrev pub decreases-loop-rest : goal.decreases-loop-rest
decreases-loop-rest l = length (text_lines l.rest)
