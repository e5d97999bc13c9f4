use Rattle.std.proofs.Common.{◌≡◌, ◌+◌, ◌<◌, ◌≤◌, ◌∙◌, ℕ, [], ◌∷◌, ◌++◌, None, Some, is_some, length, option_map, reverse, rules}
use Rattle.std.proofs.Common.{sym, ap, subst, arith}
use Rattle.irq_base.specs.declared.calls.Call.{Call}
use Rattle.irq_base.specs.declared.entries.Actor.TheVariants as actors
use Rattle.irq_line.specs.Answers.{Adds}
use Rattle.irq_line.specs.Seen.{LineSeen}
use Rattle.irq_model.specs.Due.{due_call}
use Rattle.irq_model.specs.Kinds.{is_linked_request}
use Rattle.irq_model.specs.Next.{next}
use Rattle.line_core.proofs.More.{Beside}
use Rattle.line_core.proofs.Stepping.{line_of, IsDueStep, IsAdded, adds_due, driver_told, wanted}
use Rattle.line_core.proofs.Steps.{adds_alone, full_alone, no_memory_alone, rests_alone}
use Rattle.line_core.specs.Room.{links_next}
use Rattle.line_core.specs.Entries.{entry_at}
use Rattle.line_core.specs.Seen.{WiredSeen}
use Rattle.line_state.specs.declared.due.DriverStep.{DriverStep}
use Rattle.line_state.specs.declared.due.DueStep.TheVariants as steps
use Rattle.line_core.proofs.line.Line.step_of_call.Goals as goal

pub add-requires-clause-due : goal.add-requires-clause-due
add-requires-clause-due g c =
    let line : LineSeen = line_of c.self.inside.def c.self.inside.history in
    let b : Beside line.def line.entries = record { seen = c.self.inside.state; scripts = c.self.inside.scripts; is = c.self.invariant } in
    let told : option_map (λ (x : DriverStep). entry_at line (steps.Driver c.args.driver x)) c.due_of_driver.result
    ≡ next line.def line.entries (actors.Driver c.args.driver)
    = driver_told line b c.args.driver c.args.call c.args.within c.due_of_driver.result
    (subst (λ (w : WiredSeen). due_call w.line.def c.args.driver (reverse w.line.entries) ≡ Some (c.args.call, c.args.within))
    (sym c.self.view_is) c.requires.call) (c.due_of_driver.ensures line.def) in
    let who = actors.Driver c.args.driver in
    let step = steps.Driver c.args.driver c.in-Some.step in
    let due : IsDueStep line who step
    = sym told ∙ ap (option_map (λ (x : DriverStep). entry_at line (steps.Driver c.args.driver x))) c.in-Some.is in
    subst (λ (w : WiredSeen). IsDueStep w.line who step) c.self.view_is due

pub add-requires-clause-call : goal.add-requires-clause-call
add-requires-clause-call g c = ap (option_map (λ (x : Call × ℕ). x.0)) c.requires.call

pub returns-in_default-clause-step : goal.returns-in_default-clause-step
returns-in_default-clause-step g c =
    let line : LineSeen = line_of c.self.inside.def c.self.inside.history in
    let b : Beside line.def line.entries = record { seen = c.self.inside.state; scripts = c.self.inside.scripts; is = c.self.invariant } in
    let told : option_map (λ (x : DriverStep). entry_at line (steps.Driver c.args.driver x)) c.due_of_driver.result
    ≡ next line.def line.entries (actors.Driver c.args.driver)
    = driver_told line b c.args.driver c.args.call c.args.within c.due_of_driver.result
    (subst (λ (w : WiredSeen). due_call w.line.def c.args.driver (reverse w.line.entries) ≡ Some (c.args.call, c.args.within))
    (sym c.self.view_is) c.requires.call) (c.due_of_driver.ensures line.def) in
    let who = actors.Driver c.args.driver in
    let none : next line.def line.entries who ≡ None
    = sym told ∙ ap (option_map (λ (x : DriverStep). entry_at line (steps.Driver c.args.driver x))) c.in_default.is in
    rests_alone who c.args.self.now.line (subst (λ (w : WiredSeen). next w.line.def w.line.entries who ≡ None) c.self.view_is none)

pub returns-then-len-self-clause-step : goal.returns-then-len-self-clause-step
returns-then-len-self-clause-step g c =
    let line : LineSeen = line_of c.self.inside.def c.self.inside.history in
    let b : Beside line.def line.entries = record { seen = c.self.inside.state; scripts = c.self.inside.scripts; is = c.self.invariant } in
    let told : option_map (λ (x : DriverStep). entry_at line (steps.Driver c.args.driver x)) c.due_of_driver.result
    ≡ next line.def line.entries (actors.Driver c.args.driver)
    = driver_told line b c.args.driver c.args.call c.args.within c.due_of_driver.result
    (subst (λ (w : WiredSeen). due_call w.line.def c.args.driver (reverse w.line.entries) ≡ Some (c.args.call, c.args.within))
    (sym c.self.view_is) c.requires.call) (c.due_of_driver.ensures line.def) in
    let who = actors.Driver c.args.driver in
    let step = steps.Driver c.args.driver c.in-Some.step in
    let due : IsDueStep line who step
    = sym told ∙ ap (option_map (λ (x : DriverStep). entry_at line (steps.Driver c.args.driver x))) c.in-Some.is in
    let due_seen : IsDueStep c.args.self.now.line who step = subst (λ (w : WiredSeen). IsDueStep w.line who step) c.self.view_is due in
    full_alone who c.args.self.now.line c.full.result (ap is_some due_seen) c.full.ensures

pub returns-in-Ok-clause-step : goal.returns-in-Ok-clause-step
returns-in-Ok-clause-step g c =
    let line : LineSeen = line_of c.self.inside.def c.self.inside.history in
    let b : Beside line.def line.entries = record { seen = c.self.inside.state; scripts = c.self.inside.scripts; is = c.self.invariant } in
    let told : option_map (λ (x : DriverStep). entry_at line (steps.Driver c.args.driver x)) c.due_of_driver.result
    ≡ next line.def line.entries (actors.Driver c.args.driver)
    = driver_told line b c.args.driver c.args.call c.args.within c.due_of_driver.result
    (subst (λ (w : WiredSeen). due_call w.line.def c.args.driver (reverse w.line.entries) ≡ Some (c.args.call, c.args.within))
    (sym c.self.view_is) c.requires.call) (c.due_of_driver.ensures line.def) in
    let who = actors.Driver c.args.driver in
    let step = steps.Driver c.args.driver c.in-Some.step in
    let due : IsDueStep line who step
    = sym told ∙ ap (option_map (λ (x : DriverStep). entry_at line (steps.Driver c.args.driver x))) c.in-Some.is in
    let e = c.in-Ok.entry in
    let new = c.add.new.self.line in
    let below : length line.entries < line.def.log = search (rules, arith) in
    let added : IsAdded line step e new = record {
      made = c.in-Ok.ensures.entry ∙ ap (λ (w : WiredSeen). entry_at w.line step) (sym c.self.view_is);
      below = below;
      def = c.add.ensures.def ∙ ap (λ (w : WiredSeen). w.line.def) (sym c.self.view_is);
      entries = c.in-Ok.ensures.entries ∙ ap (λ (w : WiredSeen). w.line.entries ++ e ∷ []) (sym c.self.view_is);
      spare = subst (λ (w : WiredSeen). w.line.spare ≤ new.spare + 1) (sym c.self.view_is) c.in-Ok.ensures.spare;
    } in
    adds_alone c.args.self.now.line new c.args.driver e
    (subst (λ (w : WiredSeen). Adds w.line who e new) c.self.view_is (adds_due line b who step due e new added))

pub returns-in-Err-clause-step : goal.returns-in-Err-clause-step
returns-in-Err-clause-step g c =
    let line : LineSeen = line_of c.self.inside.def c.self.inside.history in
    let b : Beside line.def line.entries = record { seen = c.self.inside.state; scripts = c.self.inside.scripts; is = c.self.invariant } in
    let told : option_map (λ (x : DriverStep). entry_at line (steps.Driver c.args.driver x)) c.due_of_driver.result
    ≡ next line.def line.entries (actors.Driver c.args.driver)
    = driver_told line b c.args.driver c.args.call c.args.within c.due_of_driver.result
    (subst (λ (w : WiredSeen). due_call w.line.def c.args.driver (reverse w.line.entries) ≡ Some (c.args.call, c.args.within))
    (sym c.self.view_is) c.requires.call) (c.due_of_driver.ensures line.def) in
    let who = actors.Driver c.args.driver in
    let step = steps.Driver c.args.driver c.in-Some.step in
    let due : IsDueStep line who step
    = sym told ∙ ap (option_map (λ (x : DriverStep). entry_at line (steps.Driver c.args.driver x))) c.in-Some.is in
    let due_seen : IsDueStep c.args.self.now.line who step = subst (λ (w : WiredSeen). IsDueStep w.line who step) c.self.view_is due in
    no_memory_alone who c.args.self.now.line c.add.new.self.line (ap (λ (w : WiredSeen). w.line) c.in-Err.ensures.refused)
    (λ room. ap links_next due_seen ∙ wanted (is_linked_request (entry_at c.args.self.now.line step)) c.add.result c.in-Err.is
    (λ f. c.add.ensures.needless f room))
