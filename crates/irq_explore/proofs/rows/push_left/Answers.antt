use Rattle.irq_explore.proofs.Leaving.{left_spoken}
use Rattle.irq_explore.proofs.rows.push_left.Goals as goal

pub returns-clause-text : goal.returns-clause-text
returns-clause-text c = let e = left_spoken c.args.row.now c.args.line c.args.left in cc
