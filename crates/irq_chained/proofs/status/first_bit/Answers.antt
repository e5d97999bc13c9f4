use Rattle.std.proofs.Common.{sym, arith}
use Rattle.board_ready.proofs.Numbers.{lowest_number}
use Rattle.irq_chained.proofs.status.first_bit.Goals as goal

pub returns : goal.returns
returns c = sym (lowest_number c.args.word (omega arith) (omega arith))
