use Rattle.log_read.proofs.Digits.{actor_tells}
use Rattle.log_read.proofs.Taking.{fitted}
use Rattle.log_read.proofs.numbers.made_by.Goals as goal

pub returns : goal.returns
returns c = fitted c.actor_named.result actor_tells c.next-word.ensures c.actor_named.ensures c.fit.ensures
