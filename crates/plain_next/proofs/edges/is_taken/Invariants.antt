use Rattle.std.proofs.Common.{◌≡◌, take, drop}
use Rattle.irq_model.specs.Edges.{was_open, is_taken}
use Rattle.plain_next.proofs.edges.is_taken.Given as goal

abbrev pub invariant-loop-i : goal.invariant-loop-i
invariant-loop-i l = record {
  opened : l.opened ≡ was_open l.def (drop l.i (take l.place l.past)) (drop l.place l.past);
  taken : l.taken ≡ is_taken l.def (drop l.i (take l.place l.past)) (drop l.place l.past);
}
