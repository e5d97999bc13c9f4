use Rattle.std.proofs.Common.{◌≡◌, ℕ, ◌<◌, false, ◌&&◌, take, drop}
use Rattle.irq_model.specs.Edges.{is_alive, is_sent_edge}
use Rattle.plain_next.proofs.edges.is_sent.Given as goal

abbrev pub invariant-loop-place : goal.invariant-loop-place
invariant-loop-place l =
    (k : ℕ) → k < l.place → (is_alive l.def (take k l.past) (drop k l.past) && is_sent_edge l.def (take k l.past) (drop k l.past)) ≡ false
