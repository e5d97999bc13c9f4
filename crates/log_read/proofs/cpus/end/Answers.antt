use Rattle.std.proofs.Common.{Bool}
use Rattle.irq_base.specs.declared.entries.CpuEntry.TheVariants as cpus
use Rattle.irq_base.specs.declared.entries.Note.{Note}
use Rattle.log_read.proofs.Taking.{made, both}
use Rattle.log_read.proofs.cpus.end.Goals as goal

pub returns : goal.returns
returns c = made (λ (p : Bool × (Bool × Note)). cpus.End p.0 p.1.0 p.1.1)
    (both c.again-again.ensures (both c.unmask-unmask.ensures c.note-note.ensures))
