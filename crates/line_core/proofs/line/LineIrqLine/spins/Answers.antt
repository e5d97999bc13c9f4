use Rattle.std.proofs.Common.{◌≡◌, subst, ◌∙◌}
use Rattle.irq_line.specs.Queries.{spins}
use Rattle.irq_line.specs.Seen.{LineSeen}
use Rattle.line_core.proofs.Asked.{spins_told}
use Rattle.line_core.proofs.More.{line_scripted}
use Rattle.line_core.proofs.Stepping.{line_of}
use Rattle.line_core.specs.Seen.{WiredSeen}
use Rattle.line_state.specs.Seen.{runs_seen}
use Rattle.line_core.proofs.line.LineIrqLine.spins.Goals as goal

pub returns : goal.returns
returns g c =
    let line : LineSeen = line_of c.self.inside.def c.self.inside.history in
    subst (λ (w : WiredSeen). c.spins.result ≡ spins w.line) c.self.view_is
    (c.spins.ensures line.def c.self.invariant.valid_runs (line_scripted line.def line.entries
    (record { seen = c.self.inside.state; scripts = c.self.inside.scripts; is = c.self.invariant }))
    ∙ spins_told line c.self.inside.state.state c.self.inside.scripts (runs_seen c.self.inside.state) c.self.invariant)
