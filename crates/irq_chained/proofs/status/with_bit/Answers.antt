use Rattle.board_ready.proofs.Numbers.{with_number}
use Rattle.irq_chained.proofs.status.with_bit.Goals as goal

pub returns : goal.returns
returns c = λ i small. with_number c.args.word c.args.number i c.requires small
