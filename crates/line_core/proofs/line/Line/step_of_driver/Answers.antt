use Rattle.std.proofs.Common.{◌≡◌, ◌∙◌, ℕ, None, Some, option_map, reverse, sym, ap, subst}
use Rattle.irq_base.specs.declared.calls.Call.{Call}
use Rattle.irq_base.specs.declared.entries.Actor.TheVariants as actors
use Rattle.irq_line.specs.Seen.{LineSeen}
use Rattle.irq_model.specs.Due.{due_call}
use Rattle.irq_model.specs.Next.{next}
use Rattle.line_core.proofs.More.{Beside, due_call_is}
use Rattle.line_core.proofs.Stepping.{line_of, no_call_told}
use Rattle.line_core.proofs.Steps.{adds_alone, rests_alone}
use Rattle.line_core.specs.Seen.{WiredSeen}
use Rattle.line_core.proofs.line.Line.step_of_driver.Goals.{in-Ask+else-has_room, in_default-call}
use Rattle.line_core.proofs.line.Line.step_of_driver.Goals as goal

pub returns-in_default-clause-step : goal.returns-in_default-clause-step
returns-in_default-clause-step g c =
    let line : LineSeen = line_of c.self.inside.def c.self.inside.history in
    let b : Beside line.def line.entries = record { seen = c.self.inside.state; scripts = c.self.inside.scripts; is = c.self.invariant } in
    let who = actors.Driver c.args.driver in
    let none : next line.def line.entries who ≡ None = no_call_told line b c.args.driver (sym c.due.ensures ∙ c.in_default.is) in
    rests_alone who c.args.self.now.line (subst (λ (w : WiredSeen). next w.line.def w.line.entries who ≡ None) c.self.view_is none)

pub ask-requires-clause-call : goal.ask-requires-clause-call
ask-requires-clause-call g c =
    let line : LineSeen = line_of c.self.inside.def c.self.inside.history in
    let b : Beside line.def line.entries = record { seen = c.self.inside.state; scripts = c.self.inside.scripts; is = c.self.invariant } in
    let told : due_call line.def c.args.driver (reverse line.entries) ≡ Some (c.in-Some.call, c.in-Some.within)
    = due_call_is line.def line.entries b c.args.driver ∙ (sym c.due.ensures ∙ c.in-Some.is) in
    subst (λ (w : WiredSeen). option_map (λ (x : Call × ℕ). x.0) (due_call w.line.def c.args.driver (reverse w.line.entries)) ≡ Some c.in-Some.call)
    c.self.view_is (ap (option_map (λ (x : Call × ℕ). x.0)) told) ∙ ap Some c.in-Ask.is

pub step_of_call-requires : goal.step_of_call-requires
step_of_call-requires g c =
    let line : LineSeen = line_of c.self.inside.def c.self.inside.history in
    let b : Beside line.def line.entries = record { seen = c.self.inside.state; scripts = c.self.inside.scripts; is = c.self.invariant } in
    let told : due_call line.def c.args.driver (reverse line.entries) ≡ Some (c.in-Some.call, c.in-Some.within)
    = due_call_is line.def line.entries b c.args.driver ∙ (sym c.due.ensures ∙ c.in-Some.is) in
    let same : c.match-call.call ≡ c.in-Some.call = elim c.match-call.branch [
      | in-Ask+else-has_room w ↦ w.call-is ∙ sym w.in-Ask.is
      | in_default-call w ↦ w.call-is
    ] in
    record {
      call = subst (λ (w : WiredSeen). due_call w.line.def c.args.driver (reverse w.line.entries) ≡ Some (c.in-Some.call, c.in-Some.within))
          c.self.view_is told ∙ ap (λ (x : Call). Some (x, c.in-Some.within)) (sym same);
    }

pub returns-then-has_room-clause-step : goal.returns-then-has_room-clause-step
returns-then-has_room-clause-step g c = adds_alone c.args.self.now.line c.ask.new.self.line c.args.driver c.ask.result c.ask.ensures.adds
