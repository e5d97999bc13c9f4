use Rattle.line_lock.proofs.steps.split.Given as goal

abbrev pub ghosts-split_as : goal.ghosts-split_as
ghosts-split_as g a = record { actor = a.actor }
