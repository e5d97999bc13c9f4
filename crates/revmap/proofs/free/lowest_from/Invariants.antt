use Rattle.std.proofs.Common.{◌≡◌, ℕ, ◌<◌, ◌-◌, ◌^◌, true, is_some}
use Rattle.revmap.proofs.free.lowest_from.Given as goal

-- each number so far is mapped
abbrev pub invariant-loop-from : goal.invariant-loop-from
invariant-loop-from g l = (k : ℕ) → k < l.hw → is_some (g.V.Virqs.at l.virqs k) ≡ true

abbrev pub decreases-loop-from : goal.decreases-loop-from
decreases-loop-from g l = 2 ^ 32 - l.hw
