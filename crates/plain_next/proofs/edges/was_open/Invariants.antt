use Rattle.std.proofs.Common.{◌≡◌, take, drop}
use Rattle.irq_model.specs.Edges.{was_open}
use Rattle.plain_next.proofs.edges.was_open.Given as goal

abbrev pub invariant-loop-i : goal.invariant-loop-i
invariant-loop-i l = l.opened ≡ was_open l.def (drop l.i (take l.place l.past)) (drop l.place l.past)
