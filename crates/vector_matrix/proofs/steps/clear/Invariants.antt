use Rattle.vector_matrix.proofs.steps.clear.Given as goal

abbrev pub ghosts-clear_as : goal.ghosts-clear_as
ghosts-clear_as a = record { vector = a.vector }
