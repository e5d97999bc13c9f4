use Rattle.std.proofs.Common.{◌≡◌, ℕ, Bool, cond, subst, add-one, Some, sym, ap, ◌∙◌}
use Rattle.irq_base.specs.declared.entries.Actor.TheVariants as actors
use Rattle.irq_model.specs.Next.{next}
use Rattle.line_core.proofs.More.{line_is_of, line_activated, line_can, line_can_move, line_after, moves_by}
use Rattle.line_core.specs.Moves.{IsMoved}
use Rattle.line_scripts.specs.Rows.{place_of}
use Rattle.line_state.specs.declared.due.DueStep.TheVariants as steps
use Rattle.line_core.proofs.drivers.put_of_call.Goals as goal

pub make_of_driver-entry-requires-clause-is_of : goal.make_of_driver-entry-requires-clause-is_of
make_of_driver-entry-requires-clause-is_of g c = line_is_of c.args.def.now c.args.history.now.entries
    (record { seen = c.args.state.now; scripts = c.args.scripts.now; is = c.requires.line })

pub make_of_driver-entry-requires-clause-can : goal.make_of_driver-entry-requires-clause-can
make_of_driver-entry-requires-clause-can g c =
    line_can c.args.def.now c.args.history.now.entries (record { seen = c.args.state.now; scripts = c.args.scripts.now; is = c.requires.line })
    (actors.Driver c.args.driver) (steps.Driver c.args.driver c.args.step) c.requires.due

pub make_of_driver-entry-requires-clause-activated : goal.make_of_driver-entry-requires-clause-activated
make_of_driver-entry-requires-clause-activated g c = line_activated c.args.def.now c.args.history.now.entries
    (record { seen = c.args.state.now; scripts = c.args.scripts.now; is = c.requires.line })

pub advance-requires : goal.advance-requires
advance-requires g c =
    let due : next c.args.def.now c.args.history.now.entries (actors.Driver c.args.driver)
    ≡ Some c.make_of_driver-entry.result = c.requires.due ∙ ap Some (sym c.make_of_driver-entry.ensures.entry) in
    let can = line_can_move c.args.def.now c.args.history.now.entries
    (record { seen = c.args.state.now; scripts = c.args.scripts.now; is = c.requires.line })
    (actors.Driver c.args.driver) c.make_of_driver-entry.result due in
    record { due = can.0; within = can.1 }

pub returns-clause-line : goal.returns-clause-line
returns-clause-line g c =
    let due : next c.args.def.now c.args.history.now.entries (actors.Driver c.args.driver)
    ≡ Some c.make_of_driver-entry.result = c.requires.due ∙ ap Some (sym c.make_of_driver-entry.ensures.entry) in
    line_after c.args.def.now c.args.history.now.entries c.push.new.self.entries c.make_of_driver-entry.new.self
    c.advance.new.self c.make_of_driver-entry.result (record {
      before = record { seen = c.args.state.now; scripts = c.args.scripts.now; is = c.requires.line };
      who = (actors.Driver c.args.driver);
      due = due;
      below = c.requires.below;
      moves = moves_by c.args.driver c.args.call c.make_of_driver-entry.result c.args.scripts.now c.advance.new.self
          c.requires.call (subst (λ (ends : Bool). IsMoved c.args.driver ends c.args.scripts.now c.advance.new.self)
          c.completes.ensures (record {
            calls = c.advance.ensures.calls;
            place = c.advance.ensures.place
                ∙ ap (λ (n : ℕ). cond c.completes.result n (place_of c.args.scripts.now c.args.driver)) (add-one (place_of c.args.scripts.now c.args.driver));
            within = c.advance.ensures.within;
            other_places = c.advance.ensures.other_places;
            other_withins = c.advance.ensures.other_withins;
          }));
      entries = c.push.ensures.entries;
      state = c.make_of_driver-entry.ensures.state;
      fixed = c.make_of_driver-entry.ensures.fixed;
    })
