use Rattle.std.proofs.Common.{Bool}
use Rattle.irq_base.specs.declared.entries.ThreadEntry.TheVariants as threads
use Rattle.log_read.proofs.Taking.{made, both}
use Rattle.log_read.proofs.threads.finish.Goals as goal

pub returns : goal.returns
returns c = made (λ (p : Bool × Bool). threads.Finish p.0 p.1) (both c.kept-kept.ensures c.unmask-unmask.ensures)
