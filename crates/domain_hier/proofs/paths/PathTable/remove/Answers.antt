use Rattle.std.proofs.Common.{sym, ◌∙◌, arith}
use Rattle.domain_hier.proofs.Slots.{free_if_lower, free_as_before}
use Rattle.domain_hier.proofs.paths.PathTable.remove.Goals as goal

pub invariant_of-self : goal.invariant_of-self
invariant_of-self c = sym (free_if_lower c.self.inside.paths.items c.args.place (omega (arith, c.if-place-self.true, c.self.invariant)))

pub invariant_of-self-else-place-self : goal.invariant_of-self-else-place-self
invariant_of-self-else-place-self c = c.self.invariant
    ∙ sym (free_as_before c.self.inside.paths.items c.args.place
    (omega (arith, c.if-place-self.false, c.self.invariant)))
