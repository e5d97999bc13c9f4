use Rattle.std.proofs.Common.{refl, arith}
use Rattle.irq_chained.proofs.StatusBits.{first_in_words}
use Rattle.irq_chained.proofs.status.first_left.Goals as goal

pub returns : goal.returns
returns c = first_in_words c.args.status c.args.taken c.args.due _ c.first_bit.result (omega arith) refl c.first_bit.ensures
