use Rattle.std.proofs.Common.{◌≡◌, take, Ok}
use Rattle.std.specs.List.{flat_map}
use Rattle.irq_io.specs.Whole.{WritesAll}
use Rattle.hotplug_play.specs.Rows.{row_text}
use Rattle.hotplug_play.proofs.printing.print_fleet.Given as goal

abbrev pub invariant-loop-i : goal.invariant-loop-i
invariant-loop-i g l = record {
  content : WritesAll (g.O.Sink.written l.fn.out) (g.O.Sink.written l.out) (flat_map row_text (take l.i l.said)) (Ok tt);
  faults : g.O.Sink.faults l.out ≡ g.O.Sink.faults l.fn.out;
}
