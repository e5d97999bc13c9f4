use Rattle.std.proofs.Common.{◌≡◌, ◌≤◌, drop, length}
use Rattle.line_core.specs.InWay.{busy_in}
use Rattle.line_obstacles.specs.Obstacles.{lowest_that}
use Rattle.line_core.proofs.obstacles.lowest_at_work.Given as goal

-- it is the lowest of the devices from there on
abbrev pub invariant-loop-place : goal.invariant-loop-place
invariant-loop-place g l = (l.place ≤ length l.devices)
    × (l.lowest ≡ lowest_that (busy_in l.state.state) (drop l.place l.devices))

abbrev pub decreases-loop-place : goal.decreases-loop-place
decreases-loop-place g l = l.place
