use Rattle.std.proofs.Common.{◌≡◌, ℕ, ◌<◌, ◌≤◌, length, slice_index}
use Rattle.std.specs.Mem.Slots.{slots_items}
use Rattle.vector_matrix.proofs.matrix.words_of.Given as goal

abbrev pub invariant-loop-at : goal.invariant-loop-at
invariant-loop-at l =
    (length l.words ≡ 32) × ((k : ℕ) → k < l.at → slice_index l.words k ≡ slice_index (slots_items l.closed.words) k)
    × ((k : ℕ) → l.at ≤ k → slice_index l.words k ≡ 0)
