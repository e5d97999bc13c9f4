use Rattle.std.proofs.Common.{◌≡◌, option_map, reverse, subst}
use Rattle.std.specs.Prelude.{IfSome}
use Rattle.irq_base.specs.declared.entries.Actor.TheVariants as actors
use Rattle.irq_line.specs.Seen.{LineSeen}
use Rattle.irq_model.specs.Next.{next}
use Rattle.line_core.proofs.More.{Beside, line_scripted, some_of_work}
use Rattle.line_core.proofs.Stepping.{line_of, kind_told}
use Rattle.line_core.specs.Entries.{entry_at}
use Rattle.line_core.specs.Running.{IsOfWork}
use Rattle.line_core.specs.Seen.{WiredSeen}
use Rattle.line_state.specs.declared.due.CpuStep.{CpuStep}
use Rattle.line_state.specs.declared.due.DueStep.TheVariants as steps
use Rattle.line_core.proofs.line.Line.due_of_cpu.Goals as goal

pub returns-clause-due : goal.returns-clause-due
returns-clause-due g c =
    let line : LineSeen = line_of c.self.inside.def c.self.inside.history in
    let b : Beside line.def line.entries = record { seen = c.self.inside.state; scripts = c.self.inside.scripts; is = c.self.invariant } in
    subst (λ (w : WiredSeen). option_map (λ (x : CpuStep). entry_at w.line (steps.Cpu c.args.cpu x)) c.due_of_cpu.result
    ≡ next w.line.def w.line.entries (actors.Cpu c.args.cpu)) c.self.view_is
    (kind_told (λ (x : CpuStep). steps.Cpu c.args.cpu x) line b (actors.Cpu c.args.cpu) c.due_of_cpu.result
    (c.due_of_cpu.ensures.due line.def (line_scripted line.def line.entries b)))

pub returns-clause-work : goal.returns-clause-work
returns-clause-work g c =
    let line : LineSeen = line_of c.self.inside.def c.self.inside.history in
    let b : Beside line.def line.entries = record { seen = c.self.inside.state; scripts = c.self.inside.scripts; is = c.self.invariant } in
    subst (λ (w : WiredSeen). IfSome c.due_of_cpu.result (IsOfWork (reverse w.line.entries))) c.self.view_is
    (some_of_work line.def line.entries b c.due_of_cpu.result c.due_of_cpu.ensures.about)
