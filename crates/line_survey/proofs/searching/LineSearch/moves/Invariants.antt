use Rattle.std.proofs.Common.{◌≡◌, ◌≤◌, ◌*◌, ◌^◌, take, sum}
use Rattle.line_survey.proofs.searching.LineSearch.moves.Given as goal

abbrev pub invariant-loop-count : goal.invariant-loop-count
invariant-loop-count l = record {
  sum : l.moves ≡ sum (take l.count-index l.count-items);
  small : l.moves ≤ l.count-index * 2 ^ 32;
}
