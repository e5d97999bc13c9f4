use Rattle.std.proofs.Common.{◌-◌, length}
use Rattle.domain_hier.proofs.levels.+is_past.Given as goal

abbrev pub decreases-is_past : goal.decreases-is_past
decreases-is_past l = length l.path.now - l.from
