use Rattle.std.proofs.Common.{arith}
use Rattle.vector_matrix.proofs.Bits.{tested}
use Rattle.vector_matrix.proofs.Stepping.{claim_step}
use Rattle.vector_matrix.proofs.steps.set_as.Goals as goal

pub fetch_or-found-requires : goal.fetch_or-found-requires
fetch_or-found-requires g c = (
  c.requires.table,
  omega arith,
  rw (c.bit_in_word-bit.ensures, ← c.requires.named)
      (claim_step c.args.words.now.key c.args.words.now.table_id.slots c.args.seat.now.id c.args.seat.now.me
      c.args.vector c.requires.there c.requires.cpu c.requires.number),
)

pub returns-clause-claims : goal.returns-clause-claims
returns-clause-claims g c =
    rw (c.bit_in_word-bit.ensures, tested c.fetch_or-found.result c.args.vector.number, c.requires.named) c.fetch_or-found.ensures.2
