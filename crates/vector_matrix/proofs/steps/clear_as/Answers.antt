use Rattle.std.proofs.Common.{arith}
use Rattle.vector_matrix.proofs.Stepping.{free_step}
use Rattle.vector_matrix.proofs.steps.clear_as.Goals as goal

pub fetch_and-requires : goal.fetch_and-requires
fetch_and-requires g c = (
  c.requires.table,
  omega arith,
  rw (c.bit_in_word-bit.ensures, ← c.requires.named)
      (free_step c.args.words.now.key c.args.words.now.table_id.slots c.args.seat.now.id c.args.seat.now.me
      c.args.vector c.requires.whole.0 c.requires.whole.1 c.requires.whole.2 c.requires.cpu c.requires.number),
)

pub returns-clause-frees : goal.returns-clause-frees
returns-clause-frees g c = rw c.requires.named c.fetch_and.ensures.2
