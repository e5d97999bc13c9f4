use Rattle.std.proofs.Common.{◌≡◌, ◌+◌, ◌/◌, take, length, Ok}
use Rattle.std.specs.List.{flat_map, range_with_len}
use Rattle.irq_io.specs.Whole.{WritesAll}
use Rattle.explore_picks.specs.Rows.{picks_row, row_at}
use Rattle.explore_picks.proofs.picks.print_picks.Given as goal

abbrev pub invariant-loop-place : goal.invariant-loop-place
invariant-loop-place g l = record {
  content : WritesAll (g.O.Sink.written l.fn.out) (g.O.Sink.written l.out)
      (flat_map (λ k. picks_row (row_at l.picks k)) (take l.place (range_with_len 0 ((length l.picks + 23) / 24)))) (Ok tt);
  faults : g.O.Sink.faults l.out ≡ g.O.Sink.faults l.fn.out;
}
