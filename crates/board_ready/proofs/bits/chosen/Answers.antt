use Rattle.std.proofs.Common.{arith}
use Rattle.board_ready.proofs.Numbers.{chosen_has}
use Rattle.board_ready.proofs.bits.chosen.Goals as goal

pub returns : goal.returns
returns c = λ i few. chosen_has c.args.word c.args.choice c.args.other i (omega arith) few
