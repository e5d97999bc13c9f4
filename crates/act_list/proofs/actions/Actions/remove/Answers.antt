use Rattle.irq_model.specs.Kinds.{same_dev}
use Rattle.act_list.proofs.Bits.{kept_less}
use Rattle.act_list.proofs.actions.Actions.remove.Goals as goal

pub invariant_of-self : goal.invariant_of-self
invariant_of-self c = rw c.shift_remove.ensures.entries (kept_less (same_dev c.args.dev) c.self.inside.map.entries c.self.invariant)
