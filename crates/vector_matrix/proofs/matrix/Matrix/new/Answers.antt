use Rattle.std.proofs.Common.{refl}
use Rattle.vector_matrix.proofs.Ends.{fresh}
use Rattle.vector_matrix.proofs.matrix.Matrix.new.Goals as goal

pub of_words-requires : goal.of_words-requires
of_words-requires c = fresh c.args.cpus _ refl c.requires.cpus.1
