use Rattle.std.proofs.Common.{◌≡◌, ◌≤◌, ◌+◌, drop}
use Rattle.irq_model.specs.Kinds.{same_dev}
use Rattle.irq_model.specs.Places.{count_of}
use Rattle.board_text.proofs.counting.answers_of.Given as goal

abbrev pub invariant-loop-row : goal.invariant-loop-row
invariant-loop-row l = record {
  counted : l.count + count_of (λ r. same_dev l.dev r.dev) (drop l.row-index l.told) ≡ count_of (λ r. same_dev l.dev r.dev) l.told;
  few : l.count ≤ l.row-index;
}
