use Rattle.std.proofs.Common.{◌≡◌, Some, reverse, subst}
use Rattle.irq_model.specs.Signal.{target}
use Rattle.line_core.proofs.Stepping.{line_of, aimed_at}
use Rattle.line_core.specs.Seen.{WiredSeen}
use Rattle.line_core.proofs.line.Line.chip.Goals as goal

pub returns-clause-aimed : goal.returns-clause-aimed
returns-clause-aimed g c =
    subst (λ (w : WiredSeen). target w.line.def (reverse w.line.entries) ≡ Some (record { 0 = g.C.Chip.aimed c.chip.result.now })) c.self.view_is
    (aimed_at (line_of c.self.inside.def c.self.inside.history)
    (record { seen = c.self.inside.state; scripts = c.self.inside.scripts; is = c.self.invariant })
    (g.C.Chip.aimed c.chip.result.now) c.chip.ensures.aimed)
