use Rattle.std.proofs.Common.{◌≡◌, ℕ, Some, List, option_map, reverse, ap, sym, subst, ◌∙◌}
use Rattle.irq_base.specs.declared.calls.Call.{Call}
use Rattle.irq_base.specs.declared.entries.Entry.{Entry}
use Rattle.irq_base.specs.declared.entries.Actor.TheVariants as actors
use Rattle.irq_line.specs.Seen.{LineSeen}
use Rattle.irq_model.specs.Due.{due_call}
use Rattle.irq_model.specs.Next.{next}
use Rattle.line_marks.specs.State.{StateSeen}
use Rattle.line_core.proofs.More.{Beside, call_there}
use Rattle.line_core.proofs.Stepping.{line_of, IsDueStep, due_here, made_here}
use Rattle.line_core.specs.Entries.{entry_at}
use Rattle.line_core.specs.Seen.{WiredSeen}
use Rattle.line_state.specs.Entries.{entry_by}
use Rattle.line_state.specs.declared.due.DueStep.TheVariants as steps
use Rattle.line_core.proofs.line.Line.add.Goals as goal

pub put_of_call-requires-clause-due : goal.put_of_call-requires-clause-due
put_of_call-requires-clause-due g c =
    let line : LineSeen = line_of c.self.inside.def c.self.inside.history in
    let b : Beside line.def line.entries = record { seen = c.self.inside.state; scripts = c.self.inside.scripts; is = c.self.invariant } in
    let due : IsDueStep line (actors.Driver c.args.driver) (steps.Driver c.args.driver c.args.step)
    = subst (λ (w : WiredSeen). IsDueStep w.line (actors.Driver c.args.driver)
    (steps.Driver c.args.driver c.args.step)) (sym c.self.view_is) c.requires.due in
    subst (λ (h : List Entry). next line.def h (actors.Driver c.args.driver)
    ≡ Some (entry_by line.def c.make_room.new.state.state (steps.Driver c.args.driver c.args.step)))
    (sym c.make_room.ensures.entries)
    (subst (λ (s : StateSeen). next line.def line.entries (actors.Driver c.args.driver)
    ≡ Some (entry_by line.def s (steps.Driver c.args.driver c.args.step))) (sym c.make_room.ensures.state)
    (due_here line b (actors.Driver c.args.driver) (steps.Driver c.args.driver c.args.step) due))

pub put_of_call-requires-clause-call : goal.put_of_call-requires-clause-call
put_of_call-requires-clause-call g c =
    let line : LineSeen = line_of c.self.inside.def c.self.inside.history in
    let b : Beside line.def line.entries = record { seen = c.self.inside.state; scripts = c.self.inside.scripts; is = c.self.invariant } in
    call_there line.def line.entries b c.args.driver c.args.call
    (subst (λ (w : WiredSeen). option_map (λ (x : Call × ℕ). x.0) (due_call w.line.def c.args.driver (reverse w.line.entries))
    ≡ Some c.args.call) (sym c.self.view_is) c.requires.call)

pub returns-clause-entry : goal.returns-clause-entry
returns-clause-entry g c =
    let line : LineSeen = line_of c.self.inside.def c.self.inside.history in
    let b : Beside line.def line.entries = record { seen = c.self.inside.state; scripts = c.self.inside.scripts; is = c.self.invariant } in
    let due : IsDueStep line (actors.Driver c.args.driver) (steps.Driver c.args.driver c.args.step)
    = subst (λ (w : WiredSeen). IsDueStep w.line (actors.Driver c.args.driver)
    (steps.Driver c.args.driver c.args.step)) (sym c.self.view_is) c.requires.due in
    subst (λ (w : WiredSeen). c.put_of_call.result ≡ entry_at w.line (steps.Driver c.args.driver c.args.step)) c.self.view_is
    (made_here line b (actors.Driver c.args.driver) (steps.Driver c.args.driver c.args.step) due c.put_of_call.result
    (c.put_of_call.ensures.entry ∙ ap (λ (s : StateSeen). entry_by line.def s (steps.Driver c.args.driver c.args.step)) c.make_room.ensures.state))
