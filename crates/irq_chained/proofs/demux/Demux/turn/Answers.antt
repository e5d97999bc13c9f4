use Rattle.std.proofs.Common.{ℕ, sym, ap, ◌∙◌, subst}
use Rattle.irq_base.specs.declared.entries.Actor.{Actor}
use Rattle.irq_base.specs.declared.entries.Actor.TheVariants as actors
use Rattle.irq_chained.specs.Wanted.{Wants}
use Rattle.irq_chained.proofs.demux.Demux.turn.Goals as goal

pub returns-then-cpu-eq0-clause-memory : goal.returns-then-cpu-eq0-clause-memory
returns-then-cpu-eq0-clause-memory g c =
    subst (λ (a : Actor). Wants g.L.IrqLine.may_want c.args.self.now a c.turn_cpu_0.result)
    (sym (c.in-Cpu.is ∙ ap (λ (n : ℕ). actors.Cpu (record { 0 = n })) c.if-cpu-eq0.true)) c.turn_cpu_0.ensures.memory
