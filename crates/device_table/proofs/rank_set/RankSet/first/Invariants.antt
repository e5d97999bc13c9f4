use Rattle.std.proofs.Common.{◌≡◌, ℕ, ◌*◌, ◌<◌, ◌||◌, ◌&&◌, false}
use Rattle.device_table.specs.RankSets.{holds}
use Rattle.device_table.proofs.rank_set.RankSet.first.Given as goal

abbrev pub invariant-loop-k : goal.invariant-loop-k
invariant-loop-k l = (r : ℕ) → r < 64 * l.k → (holds l.self-inside.words r || (l.with && holds l.other-inside.words r)) ≡ false
