use Rattle.std.proofs.Common.{Option, sym, subst}
use Rattle.std.specs.Prelude.{◌↔◌, IsTrue}
use Rattle.irq_base.specs.declared.numbers.CpuNo.{CpuNo}
use Rattle.irq_line.specs.Queries.{IsTaker, IsPresented}
use Rattle.irq_line.specs.Seen.{LineSeen}
use Rattle.line_core.proofs.Asked.{taker_told}
use Rattle.line_core.proofs.Stepping.{line_of}
use Rattle.line_core.specs.Seen.{WiredSeen}
use Rattle.line_state.specs.Seen.{runs_seen}
use Rattle.line_core.proofs.line.LineIrqLine.present.Goals as goal

pub returns : goal.returns
returns g c =
    let line : LineSeen = line_of c.self.inside.def c.self.inside.history in
    let taker : IsTaker line c.taker.result = subst (λ (o : Option CpuNo). IsTaker line o) (sym c.taker.ensures)
    (taker_told line c.self.inside.state.state c.self.inside.scripts (runs_seen c.self.inside.state) c.self.invariant) in
    subst (λ (w : WiredSeen). IsTrue c.is_that.result ↔ IsPresented w.line c.args.cpu) c.self.view_is
    (λ h. (taker c.args.cpu).0 (c.is_that.ensures.sound h), λ h. c.is_that.ensures.complete ((taker c.args.cpu).1 h))
