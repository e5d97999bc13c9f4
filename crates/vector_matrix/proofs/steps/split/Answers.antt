use Rattle.vector_matrix.proofs.Stepping.{split_step}
use Rattle.vector_matrix.proofs.steps.split.Goals as goal

pub split_seat-requires : goal.split_seat-requires
split_seat-requires c = (
  c.requires.table,
  c.requires.some,
  split_step c.args.words.now.key c.args.seat.now.id
      c.args.seat.now.me.0 c.requires.first.0 c.requires.first.1,
)
