use Rattle.std.proofs.Common.{sym, subst, ◌∙◌}
use Rattle.irq_base.specs.declared.entries.Actor.{Actor}
use Rattle.workers.specs.Forks.{IsThere}
use Rattle.workers.proofs.Manning.{not_there, not_found}
use Rattle.workers.proofs.lines.SharedLines.span_of.Goals as goal

pub unreachable-requires : goal.unreachable-requires
unreachable-requires g c =
    not_found c.args.board.now c.args.self.now c.in-Thread.dev
    (subst (λ (a : Actor). IsThere c.args.board.now c.args.self.now a) c.in-Thread.is c.requires)
    (sym c.find_device.ensures ∙ c.in_default.is)

pub unreachable-requires-in_default-place_of : goal.unreachable-requires-in_default-place_of
unreachable-requires-in_default-place_of g c =
    not_there c.args.board.now c.args.self.now c.in-Thread.dev c.in-Some.device
    (subst (λ (a : Actor). IsThere c.args.board.now c.args.self.now a) c.in-Thread.is c.requires)
    (sym c.find_device.ensures ∙ c.in-Some.is) c.in_default-place_of.ensures.place
