use Rattle.domain_hier.proofs.levels.+can_mask.Given as goal

abbrev pub decreases-can_mask : goal.decreases-can_mask
decreases-can_mask l = l.left
