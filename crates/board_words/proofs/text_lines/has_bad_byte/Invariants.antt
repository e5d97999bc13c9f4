use Rattle.std.proofs.Common.{◌≡◌, drop}
use Rattle.std.specs.List.{list_all}
use Rattle.board_words.specs.TextLines.{is_allowed}
use Rattle.board_words.proofs.text_lines.has_bad_byte.Given as goal

abbrev pub invariant-loop-b : goal.invariant-loop-b
invariant-loop-b l = list_all is_allowed l.line ≡ list_all is_allowed (drop l.b-index l.line)
