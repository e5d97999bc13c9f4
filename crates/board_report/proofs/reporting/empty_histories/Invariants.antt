use Rattle.std.proofs.Common.{◌≡◌, All, vec_len}
use Rattle.board_report.specs.Reporting.{IsEmptyHistory}
use Rattle.board_report.proofs.reporting.empty_histories.Given as goal

abbrev pub invariant-loop : goal.invariant-loop
invariant-loop l = record {
  count : vec_len l.all ≡ l.counter;
  empty : All IsEmptyHistory l.all.items;
}
