use Rattle.std.proofs.Common.{◌≡◌, All, length}
use Rattle.std.specs.List.{flat_map}
use Rattle.play_report.specs.Printing.{StepHasRow}
use Rattle.play_report.proofs.RowByRow.{IsPrinting}
use Rattle.play_report.proofs.printing.print_rows.Given as goal

abbrev pub invariant-loop-step : goal.invariant-loop-step
invariant-loop-step g l = record {
  printing :
      IsPrinting (g.O.Sink.written l.fn.out) (g.O.Sink.written l.out)
      (flat_map g.R.StepRows.text (g.R.StepRows.left l.fn.steps)) (flat_map g.R.StepRows.text (g.R.StepRows.left l.steps));
  rows : All (StepHasRow g.R.StepRows.told) (g.R.StepRows.left l.steps);
  faults : g.O.Sink.faults l.out ≡ g.O.Sink.faults l.fn.out;
}

abbrev pub decreases-loop-step : goal.decreases-loop-step
decreases-loop-step g l = length (g.R.StepRows.left l.steps)
