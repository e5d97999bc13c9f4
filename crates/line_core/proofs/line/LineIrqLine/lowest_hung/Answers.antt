use Rattle.std.proofs.Common.{Option, sym, subst}
use Rattle.irq_base.specs.declared.entries.Actor.{Actor}
use Rattle.irq_line.specs.Queries.{IsLowestHung}
use Rattle.irq_line.specs.Seen.{LineSeen}
use Rattle.line_core.proofs.Asked.{hung_told}
use Rattle.line_core.proofs.More.{line_scripted}
use Rattle.line_core.proofs.Stepping.{line_of}
use Rattle.line_core.specs.Seen.{WiredSeen}
use Rattle.line_state.specs.Seen.{runs_seen}
use Rattle.line_core.proofs.line.LineIrqLine.lowest_hung.Goals as goal

pub returns : goal.returns
returns g c =
    let line : LineSeen = line_of c.self.inside.def c.self.inside.history in
    subst (λ (w : WiredSeen). IsLowestHung w.line c.lowest_hung.result) c.self.view_is
    (subst (λ (o : Option Actor). IsLowestHung line o)
    (sym (c.lowest_hung.ensures line.def c.self.invariant.valid_runs (line_scripted line.def line.entries
    (record { seen = c.self.inside.state; scripts = c.self.inside.scripts; is = c.self.invariant }))))
    (hung_told line c.self.inside.state.state c.self.inside.scripts (runs_seen c.self.inside.state) c.self.invariant))
