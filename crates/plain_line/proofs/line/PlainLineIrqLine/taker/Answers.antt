use Rattle.std.proofs.Common.{subst}
use Rattle.irq_line.specs.Queries.{IsTaker}
use Rattle.irq_line.specs.Seen.{LineSeen}
use Rattle.plain_line.proofs.line.PlainLineIrqLine.taker.Goals as goal

pub returns : goal.returns
returns c = subst (λ (line : LineSeen). IsTaker line c.self.inside.looked.taker) c.self.view_is c.self.invariant.looked.taker
