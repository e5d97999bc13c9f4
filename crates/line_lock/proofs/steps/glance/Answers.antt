use Rattle.std.proofs.Common.{arith}
use Rattle.line_lock.proofs.Turning.{glance_step}
use Rattle.line_lock.proofs.steps.glance.Goals as goal

pub load-requires : goal.load-requires
load-requires g c = (
  c.requires.table.0,
  omega arith,
  glance_step g.T.Kept.definition g.T.Kept.entries c.args.lock.now.key
      c.args.lock.now.table_id.slots c.args.seat.now.id c.args.seat.now.me c.requires.actor.0 c.requires.idle.0
      c.requires.idle.1 c.requires.actor.1,
)
