use Rattle.std.proofs.Common.{◌≡◌, option_map, subst}
use Rattle.irq_base.specs.declared.entries.Actor.TheVariants as actors
use Rattle.irq_line.specs.Seen.{LineSeen}
use Rattle.irq_model.specs.Next.{next}
use Rattle.line_core.proofs.More.{Beside, line_scripted}
use Rattle.line_core.proofs.Stepping.{line_of, kind_told}
use Rattle.line_core.specs.Entries.{entry_at}
use Rattle.line_core.specs.Seen.{WiredSeen}
use Rattle.line_state.specs.declared.due.ThreadStep.{ThreadStep}
use Rattle.line_state.specs.declared.due.DueStep.TheVariants as steps
use Rattle.line_core.proofs.line.Line.due_of_thread.Goals as goal

pub returns : goal.returns
returns g c =
    let line : LineSeen = line_of c.self.inside.def c.self.inside.history in
    let b : Beside line.def line.entries = record { seen = c.self.inside.state; scripts = c.self.inside.scripts; is = c.self.invariant } in
    subst (λ (w : WiredSeen). option_map (λ (x : ThreadStep). entry_at w.line (steps.Thread c.args.dev x))
    c.due_of_thread.result ≡ next w.line.def w.line.entries (actors.Thread c.args.dev)) c.self.view_is
    (kind_told (λ (x : ThreadStep). steps.Thread c.args.dev x) line b (actors.Thread c.args.dev) c.due_of_thread.result
    (c.due_of_thread.ensures.due line.def (line_scripted line.def line.entries b)))
