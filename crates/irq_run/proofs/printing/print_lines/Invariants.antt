use Rattle.std.proofs.Common.{◌≡◌, take, Ok}
use Rattle.std.specs.List.{flat_map}
use Rattle.irq_io.specs.Whole.{WritesAll}
use Rattle.irq_run.proofs.Rows.{report_rows}
use Rattle.irq_run.proofs.printing.print_lines.Given as goal

abbrev pub invariant-loop-i : goal.invariant-loop-i
invariant-loop-i g l = record {
  content : WritesAll (g.O.Sink.written l.fn.out) (g.O.Sink.written l.out) (flat_map report_rows (take l.i l.reports.reports)) (Ok tt);
  faults : g.O.Sink.faults l.out ≡ g.O.Sink.faults l.fn.out;
}
