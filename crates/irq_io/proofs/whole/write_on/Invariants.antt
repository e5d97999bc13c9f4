use Rattle.std.proofs.Common.{length, ◌-◌, ◌≡◌, ◌≤◌, take, Ok}
use Rattle.irq_io.specs.Whole.{WritesAll}
use Rattle.irq_io.proofs.whole.write_on.Given as goal

abbrev pub invariant-loop-done : goal.invariant-loop-done
invariant-loop-done g l = record {
  within : l.done ≤ length l.bytes;
  content : WritesAll (g.O.Sink.written l.fn.sink) (g.O.Sink.written l.sink) (take l.done l.bytes) (Ok tt);
  same : g.O.Sink.faults l.sink ≡ g.O.Sink.faults l.fn.sink;
}

abbrev pub decreases-loop-done : goal.decreases-loop-done
decreases-loop-done g l = length l.bytes - l.done
