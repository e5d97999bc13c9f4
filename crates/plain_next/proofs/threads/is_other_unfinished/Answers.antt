use Rattle.std.proofs.Common.{not, ◌&&◌, arith}
use Rattle.std.proofs.lemmas.Grind.{common_steps}
use Rattle.irq_model.specs.Kinds.{same_dev}
use Rattle.irq_model.specs.Threads.{is_unfinished}
use Rattle.plain_next.proofs.threads.is_other_unfinished.Goals as goal

pub returns : goal.returns
returns c = c.any_device.ensures (λ d. not (same_dev c.args.dev d) && is_unfinished c.args.past.now d) (λ d b h. grind (arith, common_steps))
