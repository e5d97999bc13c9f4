use Rattle.std.proofs.Common.{List, refl, reverse, subst, sym}
use Rattle.irq_base.specs.declared.entries.Entry.{Entry}
use Rattle.callbacks.specs.Heard.{Heard}
use Rattle.example_line.specs.Runs.{runs_in}
use Rattle.example_line.proofs.stepping.ten_steps.Goals as goal

pub loop-i-init : goal.loop-i-init
loop-i-init g c =
    let line = g.L.IrqLine.seen c.args.line.now in
    subst (λ (h : List Entry). Heard g.H.Handler.hears (runs_in line.def (reverse h)) c.args.handlers.now c.args.handlers.now) (sym c.requires) refl
