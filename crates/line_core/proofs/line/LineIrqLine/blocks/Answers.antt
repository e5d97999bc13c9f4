use Rattle.std.proofs.Common.{◌≡◌, subst, ◌∙◌}
use Rattle.irq_line.specs.Queries.{blocks_of}
use Rattle.line_core.proofs.Asked.{blocks_told}
use Rattle.line_core.proofs.Stepping.{line_of}
use Rattle.line_core.specs.Seen.{WiredSeen}
use Rattle.line_state.specs.Seen.{runs_seen}
use Rattle.line_core.proofs.line.LineIrqLine.blocks.Goals as goal

pub returns : goal.returns
returns g c =
    subst (λ (w : WiredSeen). c.blocks_by.result ≡ blocks_of w.line) c.self.view_is
    (c.blocks_by.ensures
    ∙ blocks_told (line_of c.self.inside.def c.self.inside.history) c.self.inside.state.state c.self.inside.scripts
    (runs_seen c.self.inside.state) c.self.invariant)
