use Rattle.domain_hier.proofs.hierarchy.Hierarchy.+push_levels.Given as goal

abbrev pub decreases-push_levels : goal.decreases-push_levels
decreases-push_levels l = l.left
