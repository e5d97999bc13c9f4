use Rattle.std.proofs.Common.{Option, sym, subst}
use Rattle.irq_base.specs.declared.numbers.CpuNo.{CpuNo}
use Rattle.irq_line.specs.Queries.{IsTaker}
use Rattle.irq_line.specs.Seen.{LineSeen}
use Rattle.line_core.proofs.Asked.{taker_told}
use Rattle.line_core.proofs.Stepping.{line_of}
use Rattle.line_core.specs.Seen.{WiredSeen}
use Rattle.line_state.specs.Seen.{runs_seen}
use Rattle.line_core.proofs.line.LineIrqLine.taker.Goals as goal

pub returns : goal.returns
returns g c =
    let line : LineSeen = line_of c.self.inside.def c.self.inside.history in
    subst (λ (w : WiredSeen). IsTaker w.line c.taker.result) c.self.view_is
    (subst (λ (o : Option CpuNo). IsTaker line o) (sym c.taker.ensures)
    (taker_told line c.self.inside.state.state c.self.inside.scripts (runs_seen c.self.inside.state) c.self.invariant))
