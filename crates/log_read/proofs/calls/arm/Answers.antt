use Rattle.std.proofs.Common.{ℕ, Bool}
use Rattle.irq_base.specs.declared.entries.CallEntry.TheVariants as called
use Rattle.log_read.proofs.Taking.{made, both}
use Rattle.log_read.specs.Forms.{dev_no}
use Rattle.log_read.proofs.calls.arm.Goals as goal

pub returns : goal.returns
returns c = made (λ (p : ℕ × Bool). called.Arm p.1 (dev_no p.0)) (both c.number.ensures c.yes-edge.ensures)
