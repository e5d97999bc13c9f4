use Rattle.std.proofs.Common.{ℕ}
use Rattle.irq_base.specs.declared.calls.Flags.{Flags}
use Rattle.irq_base.specs.declared.entries.DriverEntry.TheVariants as drivers
use Rattle.irq_base.specs.declared.entries.LinkAnswer.{LinkAnswer}
use Rattle.irq_base.specs.declared.entries.Opened.{Opened}
use Rattle.log_read.proofs.Taking.{made, both}
use Rattle.log_read.specs.Forms.{dev_no}
use Rattle.log_read.proofs.drivers.request.Goals as goal

pub returns : goal.returns
returns c = made (λ (p : ℕ × (Flags × (LinkAnswer × Opened))). drivers.Request p.1.0 p.1.1.0 p.1.1.1 (dev_no p.0))
    (both c.number.ensures (both c.flags-flags.ensures c.linked-answer.ensures))
