use Rattle.std.proofs.Common.{subst}
use Rattle.std.specs.Prelude.{◌↔◌, IsTrue}
use Rattle.irq_line.specs.Queries.{IsPresented}
use Rattle.irq_line.specs.Seen.{LineSeen}
use Rattle.plain_line.proofs.line.PlainLineIrqLine.present.Goals as goal

pub returns : goal.returns
returns c =
    let taker = c.self.invariant.looked.taker c.args.cpu in
    subst (λ (line : LineSeen). IsTrue c.is_that.result ↔ IsPresented line c.args.cpu) c.self.view_is
    (λ h. taker.0 (c.is_that.ensures.sound h), λ h. c.is_that.ensures.complete (taker.1 h))
