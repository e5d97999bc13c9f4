use Rattle.std.proofs.Common.{◌≡◌, ◌≤◌, drop}
use Rattle.board_words.specs.Spelling.{value_of, value_after}
use Rattle.board_words.proofs.spelling.value_up_to.Given as goal

abbrev pub invariant-loop-b : goal.invariant-loop-b
invariant-loop-b l = record {
  small : l.value ≤ l.high;
  rest : value_after l.value (drop l.b-index l.digits) ≡ value_of l.digits;
}
