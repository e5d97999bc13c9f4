use Rattle.std.proofs.Common.{add-one, Some, sym, ap, ◌∙◌}
use Rattle.irq_base.specs.declared.calls.Call.TheVariants as calls
use Rattle.irq_base.specs.declared.entries.Actor.TheVariants as actors
use Rattle.irq_base.specs.declared.entries.Entry.TheVariants as by
use Rattle.irq_base.specs.declared.entries.DriverEntry.TheVariants as drivers
use Rattle.line_core.proofs.More.{Beside, line_is_of, line_can, line_can_move, line_after, ask_due, moves_by}
use Rattle.line_marks.specs.Calls.{ask_edge_by}
use Rattle.line_scripts.specs.Rows.{place_of}
use Rattle.line_state.specs.declared.due.DriverStep.TheVariants as made
use Rattle.line_state.specs.declared.due.DueStep.TheVariants as steps
use Rattle.line_core.proofs.drivers.put_ask.Goals as goal

pub ask-entry-requires-clause-is_of : goal.ask-entry-requires-clause-is_of
ask-entry-requires-clause-is_of g c = line_is_of c.args.def.now c.args.history.now.entries
    (record { seen = c.args.state.now; scripts = c.args.scripts.now; is = c.requires.line })

pub ask-entry-requires-clause-room : goal.ask-entry-requires-clause-room
ask-entry-requires-clause-room g c =
    let b : Beside c.args.def.now c.args.history.now.entries
    = record { seen = c.args.state.now; scripts = c.args.scripts.now; is = c.requires.line } in
    line_can c.args.def.now c.args.history.now.entries b (actors.Driver c.args.driver)
    (steps.Driver c.args.driver (made.Ask c.args.dev))
    (ask_due c.args.def.now c.args.history.now.entries b c.args.driver c.args.dev c.requires.call)

pub advance-requires : goal.advance-requires
advance-requires g c =
    let b : Beside c.args.def.now c.args.history.now.entries
    = record { seen = c.args.state.now; scripts = c.args.scripts.now; is = c.requires.line } in
    let can = line_can_move c.args.def.now c.args.history.now.entries b (actors.Driver c.args.driver)
    (by.Driver c.args.driver (drivers.Ask (ask_edge_by c.args.def.now c.args.dev c.args.state.now.state) c.args.dev))
    (ask_due c.args.def.now c.args.history.now.entries b c.args.driver c.args.dev c.requires.call) in
    record { due = can.0; within = can.1 }

pub returns-clause-line : goal.returns-clause-line
returns-clause-line g c =
    let b : Beside c.args.def.now c.args.history.now.entries
    = record { seen = c.args.state.now; scripts = c.args.scripts.now; is = c.requires.line } in
    line_after c.args.def.now c.args.history.now.entries c.push.new.self.entries c.ask-entry.new.self
    c.advance.new.self c.ask-entry.result (record {
      before = b;
      who = actors.Driver c.args.driver;
      due = ask_due c.args.def.now c.args.history.now.entries b c.args.driver c.args.dev c.requires.call
          ∙ ap Some (sym c.ask-entry.ensures.entry);
      below = c.requires.below;
      moves = moves_by c.args.driver (calls.Ask c.args.dev) c.ask-entry.result c.args.scripts.now c.advance.new.self
          c.requires.call (record {
            calls = c.advance.ensures.calls;
            place = c.advance.ensures.place ∙ add-one (place_of c.args.scripts.now c.args.driver);
            within = c.advance.ensures.within;
            other_places = c.advance.ensures.other_places;
            other_withins = c.advance.ensures.other_withins;
          });
      entries = c.push.ensures.entries;
      state = c.ask-entry.ensures.state;
      fixed = c.ask-entry.ensures.fixed;
    })
