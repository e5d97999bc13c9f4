use Rattle.std.proofs.Common.{ℕ}
use Rattle.irq_base.specs.declared.devices.Answer.{Answer}
use Rattle.irq_base.specs.declared.entries.CpuEntry.TheVariants as cpus
use Rattle.log_read.proofs.Taking.{made, both}
use Rattle.log_read.specs.Forms.{dev_no}
use Rattle.log_read.proofs.cpus.returned.Goals as goal

pub returns : goal.returns
returns c = made (λ (p : ℕ × (Answer × ℕ)). cpus.Return p.1.0 (dev_no p.0) p.1.1)
    (both c.number.ensures (both c.answer-answer.ensures c.number-served.ensures))
