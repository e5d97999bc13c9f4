use Rattle.log_read.proofs.Digits.{number_tells}
use Rattle.log_read.proofs.Taking.{fitted}
use Rattle.log_read.proofs.numbers.number.Goals as goal

pub returns : goal.returns
returns c = fitted c.number_of.result number_tells c.next-word.ensures c.number_of.ensures c.fit.ensures
