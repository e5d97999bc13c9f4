use Rattle.std.proofs.Common.{arith}
use Rattle.line_lock.proofs.Turning.{split_step}
use Rattle.line_lock.proofs.steps.split_as.Goals as goal

pub split_seat-requires : goal.split_seat-requires
split_seat-requires g c = (
  c.requires.table.0,
  omega arith,
  rw (← c.requires.actor)
      (split_step g.T.Kept.definition g.T.Kept.entries c.args.lock.now.key c.args.seat.now.id c.args.seat.now.me.0
      c.args.actor c.requires.idle.1 c.requires.first c.requires.idle.0 c.requires.fresh),
)
