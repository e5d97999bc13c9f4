use Rattle.std.proofs.Common.{subst}
use Rattle.irq_line.specs.Queries.{IsLowestHung}
use Rattle.irq_line.specs.Seen.{LineSeen}
use Rattle.plain_line.proofs.line.PlainLineIrqLine.lowest_hung.Goals as goal

pub returns : goal.returns
returns c = subst (λ (line : LineSeen). IsLowestHung line c.self.inside.looked.hung) c.self.view_is c.self.invariant.looked.hung
