use Rattle.std.proofs.Common.{◌≡◌, ℕ, Some, refl, option_map, reverse, sym, subst, ap, ◌∙◌}
use Rattle.irq_base.specs.declared.calls.Call.TheVariants as calls
use Rattle.irq_base.specs.declared.calls.Call.{Call}
use Rattle.irq_base.specs.declared.entries.Actor.TheVariants as actors
use Rattle.irq_model.specs.Due.{due_call}
use Rattle.irq_line.specs.Answers.{Adds}
use Rattle.irq_line.specs.Seen.{LineSeen}
use Rattle.line_core.proofs.More.{Beside, ask_due, call_there}
use Rattle.line_core.proofs.Stepping.{line_of, IsDueStep, IsAdded, adds_due, made_here}
use Rattle.line_core.specs.Room.{HasRoom}
use Rattle.line_core.specs.Seen.{WiredSeen}
use Rattle.line_marks.specs.State.{StateSeen}
use Rattle.line_scripts.specs.Rows.{call_of}
use Rattle.line_state.specs.Entries.{entry_by}
use Rattle.line_state.specs.declared.due.DriverStep.TheVariants as made
use Rattle.line_state.specs.declared.due.DueStep.TheVariants as steps
use Rattle.line_core.proofs.line.Line.ask.Goals as goal

pub put_ask-requires-clause-call : goal.put_ask-requires-clause-call
put_ask-requires-clause-call g c =
    let line : LineSeen = line_of c.self.inside.def c.self.inside.history in
    let b : Beside line.def line.entries = record { seen = c.self.inside.state; scripts = c.self.inside.scripts; is = c.self.invariant } in
    let there : call_of c.self.inside.scripts c.args.driver ≡ Some (calls.Ask c.args.dev)
    = call_there line.def line.entries b c.args.driver (calls.Ask c.args.dev)
    (subst (λ (w : WiredSeen). option_map (λ (x : Call × ℕ). x.0) (due_call w.line.def c.args.driver (reverse w.line.entries))
    ≡ Some (calls.Ask c.args.dev)) (sym c.self.view_is) c.requires.call) in
    there

pub returns-clause-adds : goal.returns-clause-adds
returns-clause-adds g c =
    let line : LineSeen = line_of c.self.inside.def c.self.inside.history in
    let b : Beside line.def line.entries = record { seen = c.self.inside.state; scripts = c.self.inside.scripts; is = c.self.invariant } in
    let there : call_of c.self.inside.scripts c.args.driver ≡ Some (calls.Ask c.args.dev)
    = call_there line.def line.entries b c.args.driver (calls.Ask c.args.dev)
    (subst (λ (w : WiredSeen). option_map (λ (x : Call × ℕ). x.0) (due_call w.line.def c.args.driver (reverse w.line.entries))
    ≡ Some (calls.Ask c.args.dev)) (sym c.self.view_is) c.requires.call) in
    let who = actors.Driver c.args.driver in
    let step = steps.Driver c.args.driver (made.Ask c.args.dev) in
    let due : IsDueStep line who step = ask_due line.def line.entries b c.args.driver c.args.dev there
    ∙ ap (λ (x : StateSeen). Some (entry_by line.def x step)) b.is.state in
    let e = c.put_ask.result in
    let new : LineSeen = line_of c.self.inside.def c.put_ask.new.history in
    let room : HasRoom line = subst (λ (w : WiredSeen). HasRoom w.line) (sym c.self.view_is) c.requires.room in
    let added : IsAdded line step e new = record {
      made = made_here line b who step due e c.put_ask.ensures.entry;
      below = room.below;
      def = refl;
      entries = c.put_ask.ensures.entries;
      spare = c.put_ask.ensures.spare;
    } in
    subst (λ (w : WiredSeen). Adds w.line who e new) c.self.view_is (adds_due line b who step due e new added)
