use Rattle.std.proofs.Common.{length, ◌-◌, ◌≡◌, ◌≤◌, vec_len}
use Rattle.irq_io.proofs.Pieces.{ReadSoFar}
use Rattle.irq_io.proofs.whole.read_up_to.Given as goal

abbrev pub invariant-loop-buf : goal.invariant-loop-buf
invariant-loop-buf g l = record {
  within : vec_len l.all ≤ l.most;
  room : length l.buf ≡ 65536;
  content : ReadSoFar (g.S.Source.left l.fn.source) (g.S.Source.left l.source) l.all.items;
  same : g.S.Source.faults l.source ≡ g.S.Source.faults l.fn.source;
}

abbrev pub decreases-loop-buf : goal.decreases-loop-buf
decreases-loop-buf g l = l.most - vec_len l.all
