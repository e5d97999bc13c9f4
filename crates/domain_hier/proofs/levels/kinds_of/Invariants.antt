use Rattle.std.proofs.Common.{◌≡◌, ◌-◌, ◌≤◌, length, take}
use Rattle.domain_rules.specs.Paths.{kinds_on}
use Rattle.domain_hier.proofs.levels.kinds_of.Given as goal

abbrev pub invariant-loop-place : goal.invariant-loop-place
invariant-loop-place l = record {
  few : l.i ≤ length l.path;
  long : length l.kinds ≡ 8;
  kinds : take l.i l.kinds ≡ kinds_on l.domains (take l.i l.path);
}

abbrev pub decreases-loop-place : goal.decreases-loop-place
decreases-loop-place l = length l.path - l.i
