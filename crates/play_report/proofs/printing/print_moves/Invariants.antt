use Rattle.std.proofs.Common.{◌≡◌, All, length}
use Rattle.play_report.specs.Printing.{HasRow}
use Rattle.play_report.specs.Report.{moves_text}
use Rattle.play_report.proofs.RowByRow.{IsPrinting}
use Rattle.play_report.proofs.printing.print_moves.Given as goal

abbrev pub invariant-loop-at : goal.invariant-loop-at
invariant-loop-at g l = record {
  printing : IsPrinting (g.O.Sink.written l.fn.out) (g.O.Sink.written l.out) (moves_text l.fn.moves) (moves_text l.moves);
  rows : All HasRow l.moves;
  faults : g.O.Sink.faults l.out ≡ g.O.Sink.faults l.fn.out;
}

abbrev pub decreases-loop-at : goal.decreases-loop-at
decreases-loop-at g l = length l.moves
