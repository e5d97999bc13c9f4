use Rattle.std.proofs.Common.{Some, refl, sym, ap, subst, ◌∙◌}
use Rattle.irq_base.specs.declared.entries.Actor.TheVariants as actors
use Rattle.line_marks.specs.Line.{IsLine}
use Rattle.line_core.proofs.More.{line_is_of, line_can, line_after, line_activated, line_scripted, line_about_thread}
use Rattle.line_state.specs.Seen.{LineStateSeen, runs_seen}
use Rattle.line_state.specs.declared.due.DueStep.TheVariants as steps
use Rattle.line_core.proofs.threads.put.Goals as goal

pub act-requires-clause-is_of : goal.act-requires-clause-is_of
act-requires-clause-is_of g c = line_is_of c.args.def.now c.args.history.now.entries
    (record { seen = c.args.state.now; scripts = c.requires.line.0; is = c.requires.line.1 })

pub act-requires-clause-scripted : goal.act-requires-clause-scripted
act-requires-clause-scripted g c = line_scripted c.args.def.now c.args.history.now.entries
    (record { seen = c.args.state.now; scripts = c.requires.line.0; is = c.requires.line.1 })

pub act-requires-clause-activated : goal.act-requires-clause-activated
act-requires-clause-activated g c = line_activated c.args.def.now c.args.history.now.entries
    (record { seen = c.args.state.now; scripts = c.requires.line.0; is = c.requires.line.1 })

pub act-requires-clause-can : goal.act-requires-clause-can
act-requires-clause-can g c = line_can c.args.def.now c.args.history.now.entries
    (record { seen = c.args.state.now; scripts = c.requires.line.0; is = c.requires.line.1 })
    (actors.Thread c.args.dev) (steps.Thread c.args.dev c.args.step) c.requires.due

pub act-requires-clause-about : goal.act-requires-clause-about
act-requires-clause-about g c = line_about_thread c.args.def.now c.args.history.now.entries
    (record { seen = c.args.state.now; scripts = c.requires.line.0; is = c.requires.line.1 }) c.args.dev c.args.step c.requires.due

pub returns-in-Ok-clause-line : goal.returns-in-Ok-clause-line
returns-in-Ok-clause-line g c scripts is =
    line_after c.args.def.now c.args.history.now.entries c.push.new.self.entries c.act.new.state scripts c.in-Ok.entry (record {
      before = record { seen = c.args.state.now; scripts = scripts; is = is };
      who = actors.Thread c.args.dev;
      due = c.requires.due ∙ ap Some (sym c.in-Ok.ensures.entry);
      below = c.requires.below;
      moves = refl;
      entries = c.push.ensures.entries;
      state = c.in-Ok.ensures.state;
      fixed = c.act.ensures.fixed;
    })

pub returns-in-Err-clause-line : goal.returns-in-Err-clause-line
returns-in-Err-clause-line g c scripts is =
    subst (λ (s : LineStateSeen). IsLine c.args.def.now c.args.history.now.entries s.state scripts (runs_seen s)) (sym c.in-Err.ensures.unheard.0) is
