use Rattle.std.proofs.Common.{ℕ}
use Rattle.irq_base.specs.declared.entries.CallEntry.TheVariants as called
use Rattle.irq_base.specs.declared.entries.UnlinkAnswer.{UnlinkAnswer}
use Rattle.log_read.proofs.Taking.{made, both}
use Rattle.log_read.specs.Forms.{dev_no}
use Rattle.log_read.proofs.calls.unlink.Goals as goal

pub returns : goal.returns
returns c = made (λ (p : ℕ × UnlinkAnswer). called.Unlink p.1 (dev_no p.0)) (both c.number.ensures c.unlink_answer-answer.ensures)
