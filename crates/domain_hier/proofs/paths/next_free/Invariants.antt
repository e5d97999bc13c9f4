use Rattle.std.proofs.Common.{◌≡◌, ◌+◌, ◌-◌, length, drop}
use Rattle.domain_hier.specs.PathsInUse.{first_free}
use Rattle.domain_hier.proofs.paths.next_free.Given as goal

-- none before the place is free
abbrev pub invariant-loop-place : goal.invariant-loop-place
invariant-loop-place l = first_free (drop l.place l.paths) + l.place ≡ first_free l.paths

abbrev pub decreases-loop-place : goal.decreases-loop-place
decreases-loop-place l = length l.paths - l.place
