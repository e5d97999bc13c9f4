use Rattle.std.proofs.Common.{arith}
use Rattle.line_lock.proofs.Turning.{raise_step}
use Rattle.line_lock.proofs.steps.count_more.Goals as goal

pub fetch_add-requires : goal.fetch_add-requires
fetch_add-requires g c = (
  c.requires.table.0,
  omega arith,
  raise_step g.T.Kept.definition g.T.Kept.entries c.args.lock.now.key
      c.args.lock.now.table_id.slots c.args.seat.now.id c.args.seat.now.me c.requires.added.0 c.requires.turn.0
      c.requires.turn.1 c.requires.added.1 c.requires.added.2,
)
