use Rattle.line_orders.proofs.storms.next_step_is_not_full.Goals as goal
use Rattle.line_orders.proofs.NeverFull.{not_full}

pub returns : goal.returns
returns g c = record { not_full = not_full (g.L.IrqLine.seen c.args.line.now) c.is_sound.ensures }
