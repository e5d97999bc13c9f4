use Rattle.std.proofs.Common.{rules}
use Rattle.irq_model.specs.Kinds.{same_dev}
use Rattle.plain_next.proofs.lines.has_device.Goals as goal

pub returns : goal.returns
returns c = c.any_device.ensures (λ d. same_dev c.args.dev d) (λ d b h. search rules)
