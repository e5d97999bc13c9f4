use Rattle.std.proofs.Common.{◌≡◌, ◌+◌, ◌≤◌, length, take}
use Rattle.irq_vectors.proofs.by_line.history_of.Given as goal

-- the history is the entries so far, and has room for the rest
abbrev pub invariant-loop-entry : goal.invariant-loop-entry
invariant-loop-entry l = (l.history.entries ≡ take l.entry-index l.entries) × (length l.entries ≤ l.entry-index + l.history.spare)
