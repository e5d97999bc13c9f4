use Rattle.std.proofs.Common.{ℕ}
use Rattle.irq_base.specs.declared.entries.CallEntry.TheVariants as called
use Rattle.log_read.proofs.Taking.{made, both}
use Rattle.log_read.specs.Forms.{dev_no}
use Rattle.log_read.proofs.calls.serve.Goals as goal

pub returns : goal.returns
returns c = made (λ (p : ℕ × ℕ). called.Serve (dev_no p.0) p.1) (both c.number.ensures c.number-served.ensures)
