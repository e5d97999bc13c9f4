use Rattle.std.proofs.Common.{◌≡◌, ◌+◌, ◌≤◌, length, take}
use Rattle.irq_model.specs.Legal.{IsLegal}
use Rattle.irq_vectors.proofs.judging.judge.Given as goal

-- the history is what was judged so far, all of it due, and has room for the rest
abbrev pub invariant-loop-i : goal.invariant-loop-i
invariant-loop-i l = (l.history.entries ≡ take l.i l.entries) × IsLegal l.def l.history.entries × (length l.entries ≤ l.i + l.history.spare)
