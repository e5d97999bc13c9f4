use Rattle.std.proofs.Common.{◌≡◌, take, length, Ok}
use Rattle.std.specs.List.{flat_map, range_with_len}
use Rattle.irq_io.specs.Whole.{WritesAll}
use Rattle.log_text.specs.LayoutRows.{layout_row_text}
use Rattle.board_report.proofs.printing.print_layout.Given as goal

abbrev pub invariant-loop-i : goal.invariant-loop-i
invariant-loop-i g l = record {
  content : WritesAll (g.O.Sink.written l.fn.out) (g.O.Sink.written l.out)
      (flat_map (layout_row_text l.board) (take l.i (range_with_len 0 (length l.board.lines)))) (Ok tt);
  faults : g.O.Sink.faults l.out ≡ g.O.Sink.faults l.fn.out;
}
