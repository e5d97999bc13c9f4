use Rattle.vector_matrix.proofs.steps.set.Given as goal

abbrev pub ghosts-set_as : goal.ghosts-set_as
ghosts-set_as a = record { vector = a.vector }
