use Rattle.std.proofs.Common.{◌≡◌, drop}
use Rattle.std.specs.List.{list_all}
use Rattle.board_def.specs.Names.{is_digit}
use Rattle.board_words.proofs.spelling.are_digits.Given as goal

abbrev pub invariant-loop-b : goal.invariant-loop-b
invariant-loop-b l = list_all is_digit l.word ≡ list_all is_digit (drop l.b-index l.word)
