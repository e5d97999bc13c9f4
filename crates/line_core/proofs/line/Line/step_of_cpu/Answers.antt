use Rattle.std.proofs.Common.{◌∙◌, is_some, option_map, sym, ap}
use Rattle.irq_base.specs.declared.entries.Actor.TheVariants as actors
use Rattle.irq_line.specs.Seen.{LineSeen}
use Rattle.line_core.proofs.Steps.{rests, refused, due_mid, has_room, after_room}
use Rattle.line_core.proofs.Stepping.{IsDueStep}
use Rattle.line_core.specs.Entries.{entry_at}
use Rattle.line_state.specs.declared.due.CpuStep.{CpuStep}
use Rattle.line_state.specs.declared.due.DueStep.TheVariants as steps
use Rattle.line_core.proofs.line.Line.step_of_cpu.Goals as goal

pub returns-in_default-clause-step : goal.returns-in_default-clause-step
returns-in_default-clause-step g c =
    let line : LineSeen = c.args.self.now.line in
    rests g.E.Hears.hears g.E.Hears.lacks (actors.Cpu c.args.cpu) c.args.ears.now line
    (sym c.due_of_cpu.ensures.due ∙ ap (option_map (λ (x : CpuStep). entry_at line (steps.Cpu c.args.cpu x))) c.in_default.is)

pub returns-in-Err-clause-step : goal.returns-in-Err-clause-step
returns-in-Err-clause-step g c =
    let line : LineSeen = c.args.self.now.line in
    let due : IsDueStep line (actors.Cpu c.args.cpu) (steps.Cpu c.args.cpu c.in-Some.step)
    = sym c.due_of_cpu.ensures.due ∙ ap (option_map (λ (x : CpuStep). entry_at line (steps.Cpu c.args.cpu x))) c.in-Some.is in
    refused g.E.Hears.hears g.E.Hears.lacks (actors.Cpu c.args.cpu) c.args.ears.now (Unit {0}) line c.make_room.new.self.line c.in-Err.refusal
    (ap is_some due) c.in-Err.ensures.room

pub act_of_cpu-requires-clause-due : goal.act_of_cpu-requires-clause-due
act_of_cpu-requires-clause-due g c =
    let line : LineSeen = c.args.self.now.line in
    let due : IsDueStep line (actors.Cpu c.args.cpu) (steps.Cpu c.args.cpu c.in-Some.step)
    = sym c.due_of_cpu.ensures.due ∙ ap (option_map (λ (x : CpuStep). entry_at line (steps.Cpu c.args.cpu x))) c.in-Some.is in
    due_mid line c.make_room.new.self.line c.in_default-make_room.ensures.room (actors.Cpu c.args.cpu) (steps.Cpu c.args.cpu c.in-Some.step) due

pub act_of_cpu-requires-clause-room : goal.act_of_cpu-requires-clause-room
act_of_cpu-requires-clause-room g c = has_room c.args.self.now.line c.make_room.new.self.line c.in_default-make_room.ensures.room

pub returns-clause-step : goal.returns-clause-step
returns-clause-step g c =
    let line : LineSeen = c.args.self.now.line in
    let mid : LineSeen = c.make_room.new.self.line in
    let step = steps.Cpu c.args.cpu c.in-Some.step in
    let due : IsDueStep line (actors.Cpu c.args.cpu) step
    = sym c.due_of_cpu.ensures.due ∙ ap (option_map (λ (x : CpuStep). entry_at line (steps.Cpu c.args.cpu x))) c.in-Some.is in
    after_room g.E.Hears.hears g.E.Hears.lacks (actors.Cpu c.args.cpu) c.args.ears.now line mid c.in_default-make_room.ensures.room
    (entry_at mid step) (due_mid line mid c.in_default-make_room.ensures.room (actors.Cpu c.args.cpu) step due)
    c.act_of_cpu.result c.act_of_cpu.new.self.line c.act_of_cpu.new.ears c.act_of_cpu.ensures.step
