use Rattle.std.proofs.Common.{◌≡◌, ◌*◌, ◌≤◌, take}
use Rattle.std.specs.List.{sum_by}
use Rattle.board_report.proofs.Summing.{entries_in}
use Rattle.board_report.proofs.summaries.count_entries.Given as goal

abbrev pub invariant-loop-i : goal.invariant-loop-i
invariant-loop-i l = record {
  total : l.total ≡ sum_by entries_in (take l.i l.reports.reports);
  small : l.total ≤ 100000000 * l.i;
}
