use Rattle.std.proofs.Common.{ℕ, Bool, nat_lt}
use Rattle.irq_base.specs.declared.entries.ThreadEntry.TheVariants as threads
use Rattle.log_text.specs.Words.{handled_words}
use Rattle.log_read.proofs.Taking.{made_end, both_end}
use Rattle.log_read.proofs.threads.returned.Goals as goal

pub returns : goal.returns
returns c = made_end (λ (p : ℕ × Bool). threads.Return p.1 p.0)
    (both_end (λ n h. handled_words h (nat_lt 0 n)) c.number-served.ensures c.handled-handled.ensures)
