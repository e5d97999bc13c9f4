use Rattle.std.proofs.Common.{ℕ, Bool}
use Rattle.irq_base.specs.declared.entries.DriverEntry.TheVariants as drivers
use Rattle.log_text.specs.Words.{edge_words}
use Rattle.log_read.proofs.Taking.{made_end, both_end}
use Rattle.log_read.specs.Forms.{dev_no}
use Rattle.log_read.proofs.drivers.ask.Goals as goal

pub returns : goal.returns
returns c = made_end (λ (p : ℕ × Bool). drivers.Ask p.1 (dev_no p.0)) (both_end (λ n. edge_words) c.number.ensures c.edge-edge.ensures)
