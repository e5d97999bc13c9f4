use Rattle.std.proofs.Common.{Option, sym, subst}
use Rattle.irq_base.specs.declared.numbers.DevNo.{DevNo}
use Rattle.irq_line.specs.Queries.{IsLowestThread}
use Rattle.irq_line.specs.Seen.{LineSeen}
use Rattle.line_core.proofs.Asked.{lowest_told}
use Rattle.line_core.proofs.More.{line_scripted}
use Rattle.line_core.proofs.Stepping.{line_of}
use Rattle.line_core.specs.Seen.{WiredSeen}
use Rattle.line_state.specs.Seen.{runs_seen}
use Rattle.line_core.proofs.line.LineIrqLine.lowest_thread.Goals as goal

pub returns : goal.returns
returns g c =
    let line : LineSeen = line_of c.self.inside.def c.self.inside.history in
    subst (λ (w : WiredSeen). IsLowestThread w.line c.lowest_thread.result) c.self.view_is
    (subst (λ (o : Option DevNo). IsLowestThread line o) (sym (c.lowest_thread.ensures line.def c.self.invariant.valid_runs (line_scripted line.def line.entries
    (record { seen = c.self.inside.state; scripts = c.self.inside.scripts; is = c.self.invariant }))))
    (lowest_told line c.self.inside.state.state c.self.inside.scripts (runs_seen c.self.inside.state) c.self.invariant))
