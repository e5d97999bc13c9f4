use Rattle.std.proofs.Common.{Ok, sym, subst}
use Rattle.irq_base.specs.declared.entries.Actor.TheVariants as actors
use Rattle.irq_line.specs.Seen.{LineSeen}
use Rattle.line_core.proofs.More.{Beside}
use Rattle.line_core.proofs.Stepping.{line_of, IsDueStep, due_here}
use Rattle.line_core.proofs.Steps.{acted}
use Rattle.line_core.specs.Room.{HasRoom}
use Rattle.line_core.specs.Seen.{WiredSeen}
use Rattle.line_core.specs.Steps.{IsStep}
use Rattle.line_state.specs.declared.due.DueStep.TheVariants as steps
use Rattle.line_core.proofs.line.Line.act_of_thread.Goals as goal

pub put-requires-clause-due : goal.put-requires-clause-due
put-requires-clause-due g c =
    let line : LineSeen = line_of c.self.inside.def c.self.inside.history in
    let b : Beside line.def line.entries = record { seen = c.self.inside.state; scripts = c.self.inside.scripts; is = c.self.invariant } in
    let who = actors.Thread c.args.dev in
    let step = steps.Thread c.args.dev c.args.step in
    let due : IsDueStep line who step = subst (λ (w : WiredSeen). IsDueStep w.line who step) (sym c.self.view_is) c.requires.due in
    due_here line b who step due

pub invariant_of-self : goal.invariant_of-self
invariant_of-self g c = c.put.ensures.line c.self.inside.scripts c.self.invariant

pub returns-clause-step : goal.returns-clause-step
returns-clause-step g c =
    let line : LineSeen = line_of c.self.inside.def c.self.inside.history in
    let b : Beside line.def line.entries = record { seen = c.self.inside.state; scripts = c.self.inside.scripts; is = c.self.invariant } in
    let who = actors.Thread c.args.dev in
    let step = steps.Thread c.args.dev c.args.step in
    let due : IsDueStep line who step = subst (λ (w : WiredSeen). IsDueStep w.line who step) (sym c.self.view_is) c.requires.due in
    let room : HasRoom line = subst (λ (w : WiredSeen). HasRoom w.line) (sym c.self.view_is) c.requires.room in
    subst (λ (w : WiredSeen). IsStep g.E.Hears.hears g.E.Hears.lacks w.line who c.args.ears.now (Ok c.put.result)
    (line_of c.self.inside.def c.put.new.history) c.put.new.ears) c.self.view_is
    (acted g.E.Hears.hears g.E.Hears.lacks who c.args.ears.now c.self.inside.def c.self.inside.history b step due room
    c.put.result c.put.new.history c.put.new.ears c.put.ensures.acts)
