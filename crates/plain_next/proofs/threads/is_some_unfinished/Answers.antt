use Rattle.std.proofs.Common.{rules}
use Rattle.irq_model.specs.Threads.{is_unfinished}
use Rattle.plain_next.proofs.threads.is_some_unfinished.Goals as goal

pub returns : goal.returns
returns c = c.any_device.ensures (λ d. is_unfinished c.args.past.now d) (λ d b h. search rules)
